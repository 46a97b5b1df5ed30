use Rattle.std.proofs.Common.{◌∙◌, ap, sym, refl, rules}
use Rattle.ahci_port.specs.Moves.{reissued_slot}
use Rattle.ahci_port.proofs.IssuingLemmas.{keeps_reissue}
use Rattle.ahci_port.proofs.OwningLemmas.{owner_is, reissuing, windows_same}
use Rattle.ahci_port.proofs.port.Port.reissue.Goals as goal

pub index_mut-requires : goal.index_mut-requires
index_mut-requires g c =
    let r = reissuing _ _ _ _ _ _ _ c.args.tag c.args.self.now c.self.invariant (ap (λ p. p.past) c.self.view_is) (sym c.reissue_fault.ensures ∙ c.in_default.is) in
    let b = r.owner.below in search rules

pub push_reserved-requires : goal.push_reserved-requires
push_reserved-requires g c =
    let r = reissuing _ _ _ _ _ _ _ c.args.tag c.args.self.now c.self.invariant (ap (λ p. p.past) c.self.view_is) (sym c.reissue_fault.ensures ∙ c.in_default.is) in
    r.room

pub invariant_of-self : goal.invariant_of-self
invariant_of-self g c =
    let i = c.self.inside in
    let r = reissuing _ _ _ _ _ _ _ c.args.tag c.args.self.now c.self.invariant (ap (λ p. p.past) c.self.view_is) (sym c.reissue_fault.ensures ∙ c.in_default.is) in
    let same = owner_is r.owner _ _ c.index_mut.ensures.value c.in-Some-index_mut.is in
    let slot = c.reissue.ensures ∙ ap reissued_slot (sym same) in
    rw (slot, c.issue.ensures, c.push_reserved.ensures.past)
    (keeps_reissue i.disk.starting i.disk i.registers i.slots.items i.headers i.journal.past i.journal.room c.push_reserved.new.self.room
    c.args.tag r.owner.slot c.self.invariant r.held r.running r.owner.here c.push_reserved.ensures.room)

pub returns-clause-ok : goal.returns-clause-ok
returns-clause-ok g c =
    let i = c.self.inside in
    let r = reissuing _ _ _ _ _ _ _ c.args.tag c.args.self.now c.self.invariant (ap (λ p. p.past) c.self.view_is) (sym c.reissue_fault.ensures ∙ c.in_default.is) in
    let same = owner_is r.owner _ _ c.index_mut.ensures.value c.in-Some-index_mut.is in
    let slot = c.reissue.ensures ∙ ap reissued_slot (sym same) in
    rw (← c.self.view_is, slot)
    (record {
      appended = record { starting_same = refl; image_same = refl; first_same = c.push_reserved.ensures.first; depth_same = refl; grows_same = refl; past_is = c.push_reserved.ensures.past; sent_is = refl };
      room = record { room_is = c.push_reserved.ensures.room; held_same = c.push_reserved.ensures.held };
      registers_are = c.issue.ensures;
      area_same = refl;
      windows_same = windows_same i.slots.items c.args.tag r.owner.slot (reissued_slot r.owner.slot) r.owner.here refl;
    })
