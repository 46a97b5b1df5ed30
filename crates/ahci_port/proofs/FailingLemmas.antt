-- A port keeps what it keeps when the device fails a command.
use Rattle.std.proofs.Common.{◌≡◌, ◌≢◌, ℕ, ◌+◌, ◌/◌, ◌≤◌, true, false, cond, List, ◌∷◌, length, set, get_or, ap, sym, refl, subst, ◌∙◌, Option, None, Some, arith, inl, inr}
use Rattle.std.proofs.lemmas.Bool.{cases_lt, and_right}
use Rattle.std.proofs.lemmas.List.{get_or-replicate, get_or_past}
use Rattle.ahci_regs.specs.PortState.{PortState}
use Rattle.ahci_table.specs.Command.{op, queued_of}
use Rattle.ncq_journal.specs.declared.phase.Phase.{Phase}
use Rattle.ncq_journal.specs.declared.phase.Phase.TheVariants.{Free, Issued, Accepted}
use Rattle.ncq_core.specs.DiskState.{DiskState, no_commands}
use Rattle.ncq_journal.specs.Entry.{Entry, Fail}
use Rattle.ncq_journal.specs.Lawful.{IsAllowed}
use Rattle.ncq_journal.specs.Laws.{is_answered, owed_less}
use Rattle.ncq_journal.specs.Phase.{phase, failed, is_busy}
use Rattle.ncq_journal.specs.Tags.{in_device}
use Rattle.ncq_core.specs.Verdict.{stopped_by}
use Rattle.ncq_journal.proofs.OwedLemmas.{owed_moves}
use Rattle.ncq_journal.proofs.PhaseLemmas.{below_depth}
use Rattle.ahci_port.specs.Keeping.{Keeps, Holds, HasSlot, HasHeader, HasSectors, slot_at}
use Rattle.ahci_port.specs.Moves.{failed_slot}
use Rattle.ahci_port.specs.Slots.{SlotState, outstanding_in}
use Rattle.ahci_port.specs.Tracking.{Tracks}
use Rattle.ahci_port.proofs.AnswerLemmas.{failed_now, apart_answers}
use Rattle.ahci_port.proofs.FailureLemmas.{halted_fail}
use Rattle.ahci_port.proofs.IssuingLemmas.{headers_stay}
use Rattle.ahci_port.proofs.KeepingLemmas.{keeps_step}
use Rattle.ahci_port.proofs.SetLemmas.{other, own, taken_by}

-- an error has ended every command
pub none_outstanding : (s : Option SlotState) → outstanding_in true s ≡ None
none_outstanding None = refl
none_outstanding (Some slot) = ap (λ b. cond b (Some (queued_of slot.window)) None) (and_right (in_device slot.phase) false refl)

-- no command is at any tag
pub no_command : (u : ℕ) → get_or no_commands u None ≡ None
unfolding no_commands
no_command u = elim (cases_lt u 32) [
  | inl low ↦ get_or-replicate 32 u None None low
  | inr high ↦ get_or_past no_commands u None (omega arith)
]

pub no_count : length no_commands ≡ 32
unfolding no_commands
no_count = refl

busy_less : (p : Phase) → is_busy p ≡ true → 1 ≤ owed_less p
busy_less Issued e = omega arith
busy_less Accepted e = omega arith
busy_less _ e = absurd (cc)

busy_open : (p : Phase) → is_busy p ≡ true → is_answered p ≡ false
busy_open Issued e = refl
busy_open Accepted e = refl
busy_open _ e = absurd (cc)

failed_taken : (p : Phase) → failed p ≢ Free
failed_taken Issued e = absurd (cc)
failed_taken _ e = absurd (cc)

pub busy_taken : (p : Phase) → is_busy p ≡ true → p ≢ Free
busy_taken = taken_by is_busy refl

-- a command that is issued or accepted fails
pub keeps_fail : (starting : List ℕ) (disk : DiskState) (regs moved : PortState) (slots : List (Option SlotState))
    (headers : List (List ℕ)) (past : List Entry) (free left tag error lba : ℕ) (slot : SlotState)
    → Keeps starting disk regs slots headers past free → is_busy (phase past tag) ≡ true → slot_at slots tag ≡ Some slot → IsAllowed (length starting / 512) disk.depth past (Fail tag error lba)
    → Tracks disk.depth (Fail tag error lba ∷ past) moved → left + 1 ≡ free
    → Keeps starting (stopped_by disk (record { tag = tag; error = error; lba = lba })) moved (set slots tag (Some (failed_slot slot (length past) error lba))) headers (Fail tag error lba ∷ past) left
keeps_fail starting disk regs moved slots headers past free left tag error lba slot k busy here allowed tracks room =
    let below = below_depth _ disk.depth past tag (phase past tag) k.lawful refl (busy_taken (phase past tag) busy) in
    let own_slot : Holds starting past tag slot = subst (HasSlot starting past tag) here (k.each tag) in
    let moves = owed_moves _ disk.depth past (Fail tag error lba) k.shape.shallow (k.lawful, allowed) in
    let stops = halted_fail past tag error lba (let d = k.shape.shallow in omega arith) in
    keeps_step starting disk (stopped_by disk (record { tag = tag; error = error; lba = lba })) regs moved slots headers headers past free left tag
    (Fail tag error lba) (Some (failed_slot slot (length past) error lba)) k below allowed
    (λ u apart. record { phase_same = other tag u (failed (phase past u)) (phase past u) apart; request_same = refl; unanswered = apart_answers tag u apart })
    (record {
      phase_is = own tag (failed (phase past tag)) (phase past tag) ∙ ap failed own_slot.phase_is;
      taken = failed_taken slot.phase;
      request_is = own_slot.request_is;
      is_of = own_slot.is_of;
      fit = own_slot.fit;
      tag_is = own_slot.tag_is;
      answer_is = failed_now (length starting / 512) disk.depth starting past tag error lba
          (record { number = slot.place; work = op slot.window }) k.lawful own_slot.request_is (busy_open (phase past tag) busy);
    })
    (record {
      depth_same = refl;
      size_same = refl;
      count_same = no_count;
      sectors = k.sectors;
      error_is = sym (ap (λ b. cond b (Some (record { tag = tag; error = error; lba = lba })) None) stops);
      own_command = no_command tag ∙ sym (ap (λ b. outstanding_in b (Some (failed_slot slot (length past) error lba))) stops ∙ none_outstanding (Some (failed_slot slot (length past) error lba)));
      other_commands = λ u apart. no_command u ∙ sym (ap (λ b. outstanding_in b (slot_at slots u)) stops ∙ none_outstanding (slot_at slots u));
      stay = λ i is. is;
      own_room = subst (HasSectors (length starting / 512) disk.reserved) here (k.reserved tag);
    })
    (headers_stay headers tag (Some (failed_slot slot (length past) error lba)) k.shape.header_count (subst (HasHeader headers tag) here (k.listed tag)))
    tracks
    (let r = k.room in let less = busy_less (phase past tag) busy in omega arith)
