-- A port keeps what it keeps when it recovers.
use Rattle.std.proofs.Common.{◌≡◌, ◌≢◌, ℕ, ◌/◌, ◌≤◌, Bool, true, false, ◌&&◌, cond, List, ◌∷◌, length, map, ap, sym, refl, ◌∙◌, Option, None, Some, arith}
use Rattle.std.specs.Option.{option_map}
use Rattle.std.proofs.lemmas.List.{length-map}
use Rattle.std.proofs.Math.ListN.{get_or-map}
use Rattle.ahci_regs.specs.PortState.{PortState}
use Rattle.ahci_table.specs.Command.{op, queued_of}
use Rattle.ncq_journal.specs.declared.phase.Phase.{Phase}
use Rattle.ncq_journal.specs.declared.phase.Phase.TheVariants.{Free}
use Rattle.ncq_core.specs.DiskState.{DiskState}
use Rattle.ncq_journal.specs.Entry.{Entry, Recover}
use Rattle.ncq_journal.specs.Halted.{halted}
use Rattle.ncq_journal.specs.Lawful.{IsLawful}
use Rattle.ncq_journal.specs.Phase.{phase, recovered, is_failed}
use Rattle.ncq_journal.specs.Tags.{in_device}
use Rattle.ncq_journal.proofs.HaltedLemmas.{halted_at}
use Rattle.ncq_journal.proofs.OwedLemmas.{owed_is_few}
use Rattle.ncq_journal.proofs.PhaseLemmas.{below_depth}
use Rattle.ahci_port.specs.Keeping.{Keeps, HasSlot, HasHeader, HasSectors, slot_at}
use Rattle.ahci_port.specs.Moves.{recovered_slot}
use Rattle.ahci_port.specs.Registers as registers
use Rattle.ahci_port.specs.Slots.{SlotState, outstanding_in}
use Rattle.ahci_port.specs.Standing.{last_failure}
use Rattle.ahci_port.proofs.AnswerLemmas.{answer_stays}
use Rattle.ahci_port.proofs.FailingLemmas.{none_outstanding}
use Rattle.ahci_port.proofs.FailureLemmas.{halted_recover}
use Rattle.ahci_port.proofs.RegisterLemmas.{tracks_recover}
use Rattle.ahci_port.proofs.SetLemmas.{taken_by}

recovered_taken : (p : Phase) → p ≢ Free → recovered p ≢ Free
recovered_taken Free t e = t e
recovered_taken _ t e = absurd (cc)

recovered_idle : (p : Phase) → in_device (recovered p) ≡ false
recovered_idle Free = refl
recovered_idle _ = refl

idle_again : (s : Option SlotState) → outstanding_in false (option_map recovered_slot s) ≡ None
idle_again None = refl
idle_again (Some slot) = ap (λ b. cond (b && true) (Some (queued_of slot.window)) None) (recovered_idle slot.phase)

pub failed_taken : (p : Phase) → is_failed p ≡ true → p ≢ Free
failed_taken = taken_by is_failed refl

slot_recovers : (starting : List ℕ) (past : List Entry) (t u : ℕ) (s : Option SlotState) → HasSlot starting past u s → HasSlot starting (Recover t ∷ past) u (option_map recovered_slot s)
slot_recovers starting past t u None h = ap recovered h
slot_recovers starting past t u (Some slot) h = record {
  phase_is = ap recovered h.phase_is;
  taken = recovered_taken slot.phase h.taken;
  request_is = h.request_is;
  is_of = h.is_of;
  fit = h.fit;
  tag_is = h.tag_is;
  answer_is = answer_stays starting past (Recover t) u (record { number = slot.place; work = op slot.window }) h.request_is refl ∙ h.answer_is;
}

header_recovers : (headers : List (List ℕ)) (u : ℕ) (s : Option SlotState) → HasHeader headers u s → HasHeader headers u (option_map recovered_slot s)
header_recovers headers u None h = h
header_recovers headers u (Some slot) h = h

sectors_recover : (size : ℕ) (reserved : List Bool) (s : Option SlotState) → HasSectors size reserved s → HasSectors size reserved (option_map recovered_slot s)
sectors_recover size reserved None h = h
sectors_recover size reserved (Some slot) h = h

-- a failed tag stops the port
pub stopped_by_tag : (s d : ℕ) (past : List Entry) (tag : ℕ) → d ≤ 32 → IsLawful s d past → is_failed (phase past tag) ≡ true → halted past ≡ true
stopped_by_tag s d past tag few lawful bad = halted_at past tag (let b = below_depth s d past tag (phase past tag) lawful refl (failed_taken (phase past tag) bad) in omega arith) bad

pub keeps_recover : (starting : List ℕ) (disk : DiskState) (regs : PortState) (slots : List (Option SlotState)) (headers : List (List ℕ)) (past : List Entry) (free left tag : ℕ)
    → Keeps starting disk regs slots headers past free → is_failed (phase past tag) ≡ true → 128 ≤ left
    → Keeps starting (record disk { error = None }) (registers.recovered regs) (map (option_map recovered_slot) slots) headers (Recover tag ∷ past) left
keeps_recover starting disk regs slots headers past free left tag k bad room =
    record {
      shape = rw (length-map slots (option_map recovered_slot)) k.shape;
      lawful = (k.lawful, bad);
      tracks = tracks_recover disk.depth past regs tag k.tracks k.shape.some_slot k.shape.shallow;
      sectors = k.sectors;
      commands = λ u. k.commands u ∙ ap (λ b. outstanding_in b (slot_at slots u)) stopped ∙ none_outstanding (slot_at slots u)
          ∙ sym (ap (outstanding_in (halted (Recover tag ∷ past))) (there u)
          ∙ ap (λ b. outstanding_in b (option_map recovered_slot (slot_at slots u))) (halted_recover past tag) ∙ idle_again (slot_at slots u));
      error_is = sym (ap (λ b. cond b (last_failure past) None) (halted_recover past tag));
      each = λ u. rw (there u) (slot_recovers starting past tag u (slot_at slots u) (k.each u));
      listed = λ u. rw (there u) (header_recovers headers u (slot_at slots u) (k.listed u));
      reserved = λ u. rw (there u) (sectors_recover (length starting / 512) disk.reserved (slot_at slots u) (k.reserved u));
      room = (let few = owed_is_few (Recover tag ∷ past) in omega arith);
    }
  where
    stopped : halted past ≡ true
    stopped = stopped_by_tag (length starting / 512) disk.depth past tag k.shape.shallow k.lawful bad

    there : (u : ℕ) → slot_at (map (option_map recovered_slot) slots) u ≡ option_map recovered_slot (slot_at slots u)
    there u = get_or-map (option_map recovered_slot) slots u None
