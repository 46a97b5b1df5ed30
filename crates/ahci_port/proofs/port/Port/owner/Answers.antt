use Rattle.std.proofs.Common.{◌∙◌, ap, sym, Some}
use Rattle.std.specs.Option.{option_map}
use Rattle.ncq_journal.specs.Numbering.{number_of}
use Rattle.ahci_port.specs.Keeping.{slot_at}
use Rattle.ahci_port.proofs.ReadingLemmas.{owner_here, owner_within}
use Rattle.ahci_port.proofs.port.Port.owner.Goals as goal

pub number_at-requires : goal.number_at-requires
number_at-requires g c =
    let i = c.self.inside in
    owner_within i.disk.starting i.journal.past c.args.tag c.in-Some.place (slot_at i.slots.items c.args.tag) (c.self.invariant.each c.args.tag)
    (sym (c.place_in.ensures ∙ ap (λ xs. option_map (λ s. s.place) (slot_at xs c.args.tag)) c.deref.ensures.value) ∙ c.in-Some.is)

pub returns-in-Some : goal.returns-in-Some
returns-in-Some g c =
    let i = c.self.inside in
    rw (← c.self.view_is)
    (ap (λ n. Some n) c.number_at.ensures
    ∙ sym (ap (option_map (number_of i.journal.first)) (sym (c.place_in.ensures ∙ ap (λ xs. option_map (λ s. s.place) (slot_at xs c.args.tag)) c.deref.ensures.value) ∙ c.in-Some.is))
    ∙ owner_here i.disk.starting i.journal.past i.journal.first c.args.tag (slot_at i.slots.items c.args.tag) (c.self.invariant.each c.args.tag))

pub returns-in-None : goal.returns-in-None
returns-in-None g c =
    let i = c.self.inside in
    rw (← c.self.view_is)
    (sym (ap (option_map (number_of i.journal.first)) (sym (c.place_in.ensures ∙ ap (λ xs. option_map (λ s. s.place) (slot_at xs c.args.tag)) c.deref.ensures.value) ∙ c.in-None.is))
    ∙ owner_here i.disk.starting i.journal.past i.journal.first c.args.tag (slot_at i.slots.items c.args.tag) (c.self.invariant.each c.args.tag))
