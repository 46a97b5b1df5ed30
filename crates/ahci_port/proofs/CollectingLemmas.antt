-- What a request that can be collected has.
use Rattle.std.proofs.Common.{◌≡◌, ℕ, ◌/◌, ◌<◌, Bool, true, false, cond, List, length, nat_eq, ap, sym, refl, ◌∙◌, Option, None, Some, is_some, arith, inl, inr}
use Rattle.std.specs.Option.{option_and_then, option_map, IsSome}
use Rattle.std.specs.Prelude.{Ok}
use Rattle.std.proofs.lemmas.Bool.{eqb-true, false≢true, cases_lt}
use Rattle.std.proofs.lemmas.List.{get_or_past}
use Rattle.std.proofs.lemmas.Option.{same_Some}
use Rattle.ahci_regs.specs.PortState.{PortState}
use Rattle.ahci_table.specs.Command.{op}
use Rattle.ncq_journal.specs.declared.phase.Phase.{Phase}
use Rattle.ncq_journal.specs.declared.phase.Phase.TheVariants.{Done}
use Rattle.ahci_table.specs.Fit.{IsFit}
use Rattle.ahci_table.specs.Window.{WindowState}
use Rattle.ncq_journal.specs.Answer.{Answer, answer}
use Rattle.ncq_core.specs.DiskState.{DiskState}
use Rattle.ncq_journal.specs.Entry.{Entry, Collect}
use Rattle.ncq_journal.specs.Laws.{is_answered}
use Rattle.ncq_journal.specs.Numbering.{answer_numbered, number_of, place_of}
use Rattle.ncq_journal.specs.Phase.{phase}
use Rattle.ncq_journal.proofs.AnsweredLemmas.{answered_by_phase}
use Rattle.ncq_journal.proofs.NumberLemmas.{place_from}
use Rattle.ncq_journal.proofs.OwedLemmas.{owed_moves}
use Rattle.ahci_port.specs.Faults.{Answers, collect_refusal, is_done, is_owner}
use Rattle.ahci_port.specs.Keeping.{Keeps, HasSlot, slot_at}
use Rattle.ahci_port.specs.PortView.{PortView, owner_of}
use Rattle.ahci_port.specs.Slots.{SlotState, answer_in, bytes_in}
use Rattle.ahci_port.specs.declared.ended.Ended.{Ended}
use Rattle.ahci_port.specs.declared.fault.CollectFault.TheVariants.{Stranger, NotYet}
use Rattle.ahci_port.proofs.AnswerLemmas.{answer_within}
use Rattle.ahci_port.proofs.ReadingLemmas.{owner, owner_here}

-- what the slot of a request has that is collected
pub record Collected (starting : List ℕ) (past : List Entry) (slots : List (Option SlotState)) (free first tag number : ℕ) : Type 0 where
  pub slot : SlotState
  pub here : slot_at slots tag ≡ Some slot
  pub below : tag < length slots
  pub done : phase past tag ≡ Done
  pub fit : IsFit slot.window
  pub number_is : number ≡ number_of first slot.place
  pub answered : is_some (answer_in slot) ≡ true
  pub answer_is : answer starting past slot.place ≡ answer_in slot
  pub room : 0 < free

done_is : (p : Phase) → is_done p ≡ true → p ≡ Done
done_is Done e = refl
done_is _ e = absurd (false≢true e)

-- a call that succeeded was not refused
pub not_refused : {T E : Type 0} (x : T) (o : Option E) → Answers (Ok x) o → o ≡ None
not_refused x None h = refl
not_refused x (Some fault) h = absurd (cc)

-- what no refusal of a collecting says
pub none_left : (o : Option ℕ) (p : Phase) (number : ℕ) → cond (is_owner o number) (cond (is_done p) None (Some NotYet)) (Some Stranger) ≡ None → (o ≡ Some number) × (p ≡ Done)
none_left None p number e = absurd (cc)
none_left (Some n) p number e = by (nat_eq n number) (is_done p) refl refl e
  where
    by : (a b : Bool) → nat_eq n number ≡ a → is_done p ≡ b → cond a (cond b None (Some NotYet)) (Some Stranger) ≡ None → (Some n ≡ Some number) × (p ≡ Done)
    by true true q r h = (ap (λ x. Some x) (eqb-true n number q), done_is p r)
    by true false q r h = absurd (cc)
    by false b q r h = absurd (cc)

pub within : (slots : List (Option SlotState)) (tag : ℕ) (slot : SlotState) → slot_at slots tag ≡ Some slot → tag < length slots
within slots tag slot e = elim (cases_lt tag (length slots)) [
  | inl low ↦ low
  | inr high ↦ absurd (let z : None ≡ Some slot = sym (get_or_past slots tag None high) ∙ e in cc)
]

-- where the port refuses no collecting of a request
pub collecting : (starting : List ℕ) (disk : DiskState) (regs : PortState) (slots : List (Option SlotState)) (headers : List (List ℕ)) (past : List Entry) (free tag number : ℕ) (port : PortView)
    → Keeps starting disk regs slots headers past free → past ≡ port.past → collect_refusal port tag number ≡ None → Collected starting past slots free port.first tag number
collecting starting disk regs slots headers past free tag number port k same none = by (slot_at slots tag) refl (k.each tag)
  where
    left : (owner_of port tag ≡ Some number) × (phase port.past tag ≡ Done)
    left = none_left (owner_of port tag) (phase port.past tag) number none

    owned : owner port.first past tag ≡ Some number
    owned = ap (λ h. owner port.first h tag) same ∙ left.0

    done : phase past tag ≡ Done
    done = ap (λ h. phase h tag) same ∙ left.1

    by : (s : Option SlotState) → slot_at slots tag ≡ s → HasSlot starting past tag s → Collected starting past slots free port.first tag number
    by None e h = absurd (let z = sym (owner_here starting past port.first tag None h ∙ owned) in cc)
    by (Some slot) e h =
        let moves = owed_moves _ disk.depth past (Collect tag) k.shape.shallow (k.lawful, done) in
        record {
          slot = slot;
          here = e;
          below = within slots tag slot e;
          done = done;
          fit = h.fit;
          number_is = sym (same_Some _ _ (owner_here starting past port.first tag (Some slot) h ∙ owned));
          answered = ap is_some (sym h.answer_is) ∙ answered_by_phase (length starting / 512) disk.depth starting past tag
              (record { number = slot.place; work = op slot.window }) k.lawful h.request_is ∙ ap is_answered done;
          answer_is = h.answer_is;
          room = (let r = k.room in omega arith);
        }

-- a slot with an answer has ended
pub ended_there : (slot : SlotState) → is_some (answer_in slot) ≡ true → IsSome slot.ended
ended_there slot some = by slot.ended some
  where
    by : (x : Option Ended) → is_some (option_map (λ z. let a : Answer = record { entry = z.entry; outcome = z.outcome; bytes = bytes_in z.outcome slot.window } in a) x) ≡ true → IsSome x
    by None e = absurd (cc)
    by (Some x) e = refl

-- the answer that a slot holds
pub ended_as : (slot : SlotState) (e : Ended) → slot.ended ≡ Some e → answer_in slot ≡ Some (record { entry = e.entry; outcome = e.outcome; bytes = bytes_in e.outcome slot.window })
ended_as slot e ended = ap (λ o. option_map (λ (z : Ended). let a : Answer = record { entry = z.entry; outcome = z.outcome; bytes = bytes_in z.outcome slot.window } in a) o) ended

-- the place at which a slot's request has ended
pub ended_within : (starting : List ℕ) (past : List Entry) (slot : SlotState) (e : Ended) → answer starting past slot.place ≡ answer_in slot → slot.ended ≡ Some e → e.entry < length past
ended_within starting past slot e is ended =
    answer_within starting past slot.place (record { entry = e.entry; outcome = e.outcome; bytes = bytes_in e.outcome slot.window }) (is ∙ ended_as slot e ended)

-- the request's answer by its number, as it is given
pub answer_given : (starting : List ℕ) (past : List Entry) (first number entry : ℕ) (slot : SlotState) (e : Ended) (w : WindowState)
    → number ≡ number_of first slot.place → answer starting past slot.place ≡ answer_in slot → slot.ended ≡ Some e → w ≡ slot.window → entry ≡ number_of first e.entry
    → option_map (answer_numbered first) (option_and_then (answer starting past) (place_of first number)) ≡ Some (record { entry = entry; outcome = e.outcome; bytes = bytes_in e.outcome w })
answer_given starting past first number entry slot e w is answered ended same at =
    ap (λ p. option_map (answer_numbered first) (option_and_then (answer starting past) p)) (place_from first number slot.place is)
    ∙ ap (option_map (answer_numbered first)) (answered ∙ ended_as slot e ended)
    ∙ ap (λ n. Some (record { entry = n; outcome = e.outcome; bytes = bytes_in e.outcome slot.window })) (sym at)
    ∙ ap (λ v. Some (record { entry = entry; outcome = e.outcome; bytes = bytes_in e.outcome v })) (sym same)
