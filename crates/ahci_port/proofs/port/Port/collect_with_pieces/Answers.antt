use Rattle.std.proofs.Common.{◌≡◌, ◌∙◌, None, Some, ap, sym, refl, subst, is_some, IsSome, rules}
use Rattle.std.proofs.Math.ListN.{get_or-map}
use Rattle.std.proofs.lemmas.List.{get_or_read, map-set}
use Rattle.std.proofs.lemmas.Option.{same_Some}
use Rattle.ahci_table.specs.Fit.{IsFit}
use Rattle.ncq_journal.specs.Numbering.{number_of}
use Rattle.ahci_port.specs.Slots.{answer_in, window_in}
use Rattle.ahci_port.proofs.CollectingLemmas.{Collected, collecting, answer_given, ended_there, ended_within}
use Rattle.ahci_port.proofs.IssuingLemmas.{keeps_collect}
use Rattle.ahci_port.proofs.port.Port.collect_with_pieces.Goals as goal
use Rattle.ahci_port.proofs.port.Port.collect_with_pieces.Goals.{After-answer-pieces}

pub index_mut-requires : goal.index_mut-requires
index_mut-requires g c =
    let f = collecting _ _ _ _ _ _ _ c.args.tag c.args.number c.args.self.now c.self.invariant (ap (λ p. p.past) c.self.view_is) (sym c.collect_fault.ensures ∙ c.in_default.is) in
    let b = f.below in search rules

pub unwrap-slot-requires : goal.unwrap-slot-requires
unwrap-slot-requires g c =
    let f = collecting _ _ _ _ _ _ _ c.args.tag c.args.number c.args.self.now c.self.invariant (ap (λ p. p.past) c.self.view_is) (sym c.collect_fault.ensures ∙ c.in_default.is) in
    let here = get_or_read _ _ _ f.below c.index_mut.ensures.value None in
    subst IsSome (sym (c.take.ensures.value ∙ here ∙ f.here)) refl

pub push_reserved-requires : goal.push_reserved-requires
push_reserved-requires g c =
    let f = collecting _ _ _ _ _ _ _ c.args.tag c.args.number c.args.self.now c.self.invariant (ap (λ p. p.past) c.self.view_is) (sym c.collect_fault.ensures ∙ c.in_default.is) in
    f.room

pub answer-pieces-requires : goal.answer-pieces-requires
answer-pieces-requires g c =
    let f = collecting _ _ _ _ _ _ _ c.args.tag c.args.number c.args.self.now c.self.invariant (ap (λ p. p.past) c.self.view_is) (sym c.collect_fault.ensures ∙ c.in_default.is) in
    let here = get_or_read _ _ _ f.below c.index_mut.ensures.value None in
    let same : f.slot ≡ c.unwrap-slot.result = same_Some _ _ (sym f.here ∙ sym here ∙ sym c.take.ensures.value ∙ c.unwrap-slot.ensures) in
    ended_there c.unwrap-slot.result (ap (λ s. is_some (answer_in s)) (sym same) ∙ f.answered)

-- what holds once the slot is taken: the request's slot
taken : (g : _) (c : After-answer-pieces g) → Collected c.self.inside.disk.starting c.self.inside.journal.past c.self.inside.slots.items c.self.inside.journal.room c.args.self.now.first c.args.tag c.args.number
taken g c = collecting _ _ _ _ _ _ _ c.args.tag c.args.number c.args.self.now c.self.invariant (ap (λ p. p.past) c.self.view_is) (sym c.collect_fault.ensures ∙ c.in_default.is)

same : (g : _) (c : After-answer-pieces g) → (taken g c).slot ≡ c.unwrap-slot.result
same g c =
    let f = taken g c in
    same_Some _ _ (sym f.here ∙ sym (get_or_read _ _ _ f.below c.index_mut.ensures.value None) ∙ sym c.take.ensures.value ∙ c.unwrap-slot.ensures)

ended : (g : _) (c : After-answer-pieces g) → (taken g c).slot.ended ≡ Some c.answer-pieces.result.0
ended g c = ap (λ s. s.ended) (same g c) ∙ c.answer-pieces.ensures.ended

pub number_at-entry-requires : goal.number_at-entry-requires
number_at-entry-requires g c =
    let at = (goal.at.number_at-entry-requires g c).After-answer-pieces in
    let f = taken g at in
    ended_within c.self.inside.disk.starting c.self.inside.journal.past f.slot c.answer-pieces.result.0 f.answer_is (ended g at)

pub invariant_of-self : goal.invariant_of-self
invariant_of-self g c =
    let i = c.self.inside in
    let f = collecting _ _ _ _ _ _ _ c.args.tag c.args.number c.args.self.now c.self.invariant (ap (λ p. p.past) c.self.view_is) (sym c.collect_fault.ensures ∙ c.in_default.is) in
    rw (c.take.ensures.after, c.push_reserved.ensures.past)
    (keeps_collect i.disk.starting i.disk i.registers i.slots.items i.headers i.journal.past i.journal.room
    c.push_reserved.new.self.room c.args.tag f.slot c.self.invariant f.done f.here c.push_reserved.ensures.room)

pub returns-clause-ok : goal.returns-clause-ok
returns-clause-ok g c =
    rw (← c.self.view_is, c.take.ensures.after)
    (record {
      appended = record { starting_same = refl; image_same = refl; first_same = c.push_reserved.ensures.first; depth_same = refl; grows_same = refl; past_is = c.push_reserved.ensures.past; sent_is = refl };
      room = record { room_is = c.push_reserved.ensures.room; held_same = c.push_reserved.ensures.held };
      registers_same = refl;
      area_same = refl;
      windows_are = map-set window_in c.self.inside.slots.items c.args.tag None;
    })

pub returns-clause-reply : goal.returns-clause-reply
returns-clause-reply g c =
    let at = (goal.at.returns-clause-reply g c).After-answer-pieces in
    let i = c.self.inside in
    let f = taken g at in
    let first = ap (λ p. p.first) (sym c.self.view_is) in
    rw (← c.self.view_is)
    (answer_given i.disk.starting i.journal.past i.journal.first c.args.number c.number_at-entry.result f.slot c.answer-pieces.result.0 c.answer-pieces.result.2
    (f.number_is ∙ ap (λ n. number_of n f.slot.place) first) f.answer_is (ended g at) (c.answer-pieces.ensures.window ∙ ap (λ s. s.window) (sym (same g at))) c.number_at-entry.ensures)

pub returns-clause-window : goal.returns-clause-window
returns-clause-window g c =
    let i = c.self.inside in
    let f = collecting _ _ _ _ _ _ _ c.args.tag c.args.number c.args.self.now c.self.invariant (ap (λ p. p.past) c.self.view_is) (sym c.collect_fault.ensures ∙ c.in_default.is) in
    let here = get_or_read _ _ _ f.below c.index_mut.ensures.value None in
    let same : f.slot ≡ c.unwrap-slot.result = same_Some _ _ (sym f.here ∙ sym here ∙ sym c.take.ensures.value ∙ c.unwrap-slot.ensures) in
    rw (← c.self.view_is)
    (get_or-map window_in i.slots.items c.args.tag None ∙ ap window_in f.here ∙ ap (λ s. Some s.window) same ∙ ap (λ w. Some w) (sym c.answer-pieces.ensures.window))

pub returns-clause-fit : goal.returns-clause-fit
returns-clause-fit g c =
    let f = collecting _ _ _ _ _ _ _ c.args.tag c.args.number c.args.self.now c.self.invariant (ap (λ p. p.past) c.self.view_is) (sym c.collect_fault.ensures ∙ c.in_default.is) in
    let here = get_or_read _ _ _ f.below c.index_mut.ensures.value None in
    let same : f.slot ≡ c.unwrap-slot.result = same_Some _ _ (sym f.here ∙ sym here ∙ sym c.take.ensures.value ∙ c.unwrap-slot.ensures) in
    subst IsFit (ap (λ s. s.window) same ∙ sym c.answer-pieces.ensures.window) f.fit
