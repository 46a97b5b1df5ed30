-- A port keeps what it keeps when the device accepts a command.
use Rattle.std.proofs.Common.{◌≡◌, ℕ, ◌+◌, ◌/◌, false, cond, List, ◌∷◌, length, set, get_or, ap, sym, refl, subst, ◌∙◌, Option, None, Some, IsSomeAnd, ltb, arith}
use Rattle.std.proofs.lemmas.Bool.{ltb-false}
use Rattle.std.proofs.lemmas.List.{length-set, get_or-set_same, get_or-set_other}
use Rattle.ahci_regs.specs.PortState.{PortState}
use Rattle.ahci_table.specs.Command.{op, queued_of}
use Rattle.ncq_journal.specs.declared.phase.Phase.TheVariants.{Issued, Accepted}
use Rattle.ncq_core.specs.DiskState.{DiskState, disk_sectors}
use Rattle.ncq_journal.specs.Entry.{Entry, Accept}
use Rattle.ncq_journal.specs.Halted.{halted}
use Rattle.ncq_journal.specs.Lawful.{IsAllowed, Fits, end_of}
use Rattle.ncq_journal.specs.Phase.{phase, is_failed}
use Rattle.ncq_journal.specs.Request.{Request, request}
use Rattle.ncq_core.specs.Verdict as verdict
use Rattle.ncq_journal.proofs.OwedLemmas.{owed_moves}
use Rattle.ncq_journal.proofs.PhaseLemmas.{below_depth}
use Rattle.ahci_port.specs.Keeping.{Keeps, Holds, HasSlot, HasHeader, HasSectors, slot_at}
use Rattle.ahci_port.specs.Slots.{SlotState, outstanding_in}
use Rattle.ahci_port.specs.Standing.{last_failure}
use Rattle.ahci_port.specs.Registers as registers
use Rattle.ahci_port.proofs.FailureLemmas.{halted_same}
use Rattle.ahci_port.proofs.IssuingLemmas.{headers_stay, slot_moves}
use Rattle.ahci_port.proofs.KeepingLemmas.{keeps_step}
use Rattle.ahci_port.proofs.RegisterLemmas.{tracks_accept}
use Rattle.ahci_port.proofs.SetLemmas.{own, other}

-- what holds of the request that a slot holds
pub request_has : (starting : List ℕ) (past : List Entry) (tag : ℕ) (slot : SlotState) (P : Request → Type 0) → Holds starting past tag slot
    → P (record { number = slot.place; work = op slot.window }) → IsSomeAnd (request past tag) P
request_has starting past tag slot P h p = subst (λ o. IsSomeAnd o P) (sym h.request_is) p

-- the disk has as many sectors as it had
pub disk_size : {starting : List ℕ} {disk : DiskState} {regs : PortState} {slots : List (Option SlotState)} {headers : List (List ℕ)} {past : List Entry} {free : ℕ}
    → Keeps starting disk regs slots headers past free → disk_sectors disk ≡ length starting / 512
disk_size k = ap (λ n. n / 512) k.shape.same_size

pub accept_allowed : (starting : List ℕ) (disk : DiskState) (regs : PortState) (slots : List (Option SlotState)) (headers : List (List ℕ)) (past : List Entry) (free tag : ℕ) (slot : SlotState)
    → Keeps starting disk regs slots headers past free → phase past tag ≡ Issued → halted past ≡ false
    → slot_at slots tag ≡ Some slot → ltb (length starting / 512) (end_of (op slot.window)) ≡ false
    → IsAllowed (length starting / 512) disk.depth past (Accept tag)
accept_allowed starting disk regs slots headers past free tag slot k issued running here within = (
  issued,
  running,
  request_has starting past tag slot (λ r. Fits (length starting / 512) r.work) (subst (HasSlot starting past tag) here (k.each tag))
      (ltb-false (length starting / 512) (end_of (op slot.window)) within),
)

pub keeps_accept : (starting : List ℕ) (disk : DiskState) (regs : PortState) (slots : List (Option SlotState)) (headers : List (List ℕ)) (past : List Entry) (free left tag : ℕ) (slot : SlotState)
    → Keeps starting disk regs slots headers past free → phase past tag ≡ Issued → halted past ≡ false → slot_at slots tag ≡ Some slot
    → (queued_of slot.window).tag ≡ tag → ltb (length starting / 512) (end_of (op slot.window)) ≡ false → left + 1 ≡ free
    → Keeps starting (verdict.accepted disk (queued_of slot.window)).state (registers.accepted regs tag) (set slots tag (Some (record slot { phase = Accepted }))) headers (Accept tag ∷ past) left
keeps_accept starting disk regs slots headers past free left tag slot k issued running here its_tag within room =
    let below = below_depth _ disk.depth past tag Issued k.lawful issued (λ e. absurd (cc)) in
    let own_slot : Holds starting past tag slot = subst (HasSlot starting past tag) here (k.each tag) in
    let allowed = accept_allowed starting disk regs slots headers past free tag slot k issued running here within in
    let moves = owed_moves _ disk.depth past (Accept tag) k.shape.shallow (k.lawful, allowed) in
    let q = queued_of slot.window in
    let still = halted_same past (Accept tag) tag (ap is_failed issued) (ap is_failed (own tag Accepted (phase past tag))) (λ u apart. other tag u Accepted (phase past u) apart) in
    let place = set disk.commands tag (Some q) in
    let calm : halted (Accept tag ∷ past) ≡ false = still ∙ running in
    keeps_step starting disk (verdict.accepted disk q).state regs (registers.accepted regs tag) slots headers headers past free left tag
    (Accept tag) (Some (record slot { phase = Accepted })) k below allowed
    (λ u apart. record { phase_same = other tag u Accepted (phase past u) apart; request_same = refl; unanswered = refl })
    (slot_moves starting past (Accept tag) tag slot Accepted own_slot (own tag Accepted (phase past tag)) (λ e. absurd (cc)) refl refl)
    (record {
      depth_same = refl;
      size_same = refl;
      count_same = length-set disk.commands q.tag (Some q) ∙ k.shape.command_count;
      sectors = k.sectors;
      error_is = k.error_is ∙ sym (ap (λ b. cond b (last_failure past) None) still);
      own_command = ap (λ t. get_or (set disk.commands t (Some q)) tag None) its_tag ∙ get_or-set_same disk.commands tag (Some q) None (let c = k.shape.command_count in let d = k.shape.shallow in omega arith)
          ∙ sym (ap (λ b. outstanding_in b (Some (record slot { phase = Accepted }))) calm);
      other_commands = λ u apart. ap (λ t. get_or (set disk.commands t (Some q)) u None) its_tag ∙ get_or-set_other disk.commands tag u (Some q) None apart
          ∙ k.commands u ∙ ap (λ b. outstanding_in b (slot_at slots u)) (sym still);
      stay = λ i is. is;
      own_room = subst (HasSectors (length starting / 512) disk.reserved) here (k.reserved tag);
    })
    (headers_stay headers tag (Some (record slot { phase = Accepted })) k.shape.header_count (subst (HasHeader headers tag) here (k.listed tag)))
    (tracks_accept disk.depth past regs tag k.tracks (let d = k.shape.shallow in omega arith) issued)
    (let r = k.room in omega arith)
