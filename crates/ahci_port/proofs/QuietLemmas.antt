-- A port of which no command is issued or accepted.
use Rattle.std.proofs.Common.{◌≡◌, ◌≢◌, ℕ, ◌^◌, ◌<◌, Bool, true, false, cond, not, ◌&&◌, ◌||◌, ◌/◌, suc, ◌==◌, List, [], ◌∷◌, length, get_or, Option, ap, sym, refl, ◌∙◌, None, Some, is_some, arith}
use Rattle.std.proofs.lemmas.Bool.{true≢false}
use Rattle.std.specs.List.{list_any}
use Rattle.ahci_regs.specs.PortState.{PortState}
use Rattle.ahci_table.specs.Command.{queued_of}
use Rattle.ncq_journal.specs.declared.phase.Phase.{Phase}
use Rattle.ncq_journal.specs.declared.phase.Phase.TheVariants.{Free, Issued, Accepted, Rejected, Broken, Held, Done}
use Rattle.ncq_journal.specs.declared.plain.Plain.{Plain}
use Rattle.ncq_journal.specs.declared.plain.Plain.TheVariants as plain
use Rattle.ncq_core.specs.DiskState.{DiskState}
use Rattle.ncq_journal.specs.Entry.{Entry}
use Rattle.ncq_journal.specs.Halted.{halted, busy}
use Rattle.ncq_journal.specs.Lawful.{IsJournalled}
use Rattle.ncq_journal.specs.Phase.{phase, is_failed, is_busy}
use Rattle.ncq_journal.specs.Tags.{sact, ci, in_sact, in_ci, in_device}
use Rattle.ncq_core.specs.Verdict.{verdict, command_in, stopped_verdict, running_verdict, by_kind, idle_verdict, aborted, passed}
use Rattle.ncq_core.specs.Verdict as verdict
use Rattle.ncq_journal.proofs.HaltedLemmas.{not_busy}
use Rattle.ncq_journal.proofs.PhaseLemmas.{below_depth}
use Rattle.ncq_journal.proofs.TagLemmas.{lacks}
use Rattle.sata_fis.specs.Command.{queued_in}
use Rattle.sata_fis.specs.Fields.{H2dFields, QueuedFields}
use Rattle.sata_fis.specs.Layout.{h2d_at}
use Rattle.ahci_port.specs.Carrying.{Passes, disk_after}
use Rattle.ahci_port.specs.Faults.{plain_refusal}
use Rattle.ahci_port.specs.Keeping.{Keeps, HasSlot, slot_at}
use Rattle.ahci_port.specs.PortView.{PortView}
use Rattle.ahci_port.specs.Slots.{SlotState, outstanding_in}
use Rattle.ahci_port.specs.Unqueued.{cfis_for}
use Rattle.ncq_core.specs.declared.taken.Taken.TheVariants as taken
use Rattle.ahci_port.specs.declared.fault.PlainFault.TheVariants as fault
use Rattle.word_bits.specs.Places.{bits, has_place, no_places}
use Rattle.word_bits.proofs.BitsLemmas.{bits_zero, same_word}
use Rattle.word_bits.proofs.PlacesLemmas.{has_place-places, has_place-no_places, places_none}

quiet : (p : Phase) → is_busy p ≡ false → is_failed p ≡ false → in_sact p ≡ false
quiet Issued b f = absurd (true≢false b)
quiet Accepted b f = absurd (true≢false b)
quiet Rejected b f = absurd (true≢false f)
quiet Broken b f = absurd (true≢false f)
quiet _ b f = refl

quiet_ci : (p : Phase) → is_busy p ≡ false → is_failed p ≡ false → in_ci p ≡ false
quiet_ci Issued b f = absurd (true≢false b)
quiet_ci Rejected b f = absurd (true≢false f)
quiet_ci _ b f = refl

idle : (p : Phase) → in_sact p ≡ false → is_busy p ≡ false
idle Free e = refl
idle Held e = refl
idle Done e = refl
idle _ e = absurd (true≢false e)

quiet_sact : (past : List Entry) → halted past ≡ false → busy past ≡ false → sact past ≡ no_places
quiet_sact past calm still = places_none (λ t. in_sact (phase past t))
    (λ t low. quiet (phase past t) (lacks (λ u. is_busy (phase past u)) t low still) (lacks (λ u. is_failed (phase past u)) t low calm))

-- slot 0 has no command that waits
pub slot_0_waits : (past : List Entry) → halted past ≡ false → busy past ≡ false → has_place (ci past) 0 ≡ false
slot_0_waits past calm still = has_place-places (λ t. in_ci (phase past t)) 0 (omega arith)
    ∙ quiet_ci (phase past 0) (lacks (λ u. is_busy (phase past u)) 0 (omega arith) still) (lacks (λ u. is_failed (phase past u)) 0 (omega arith) calm)

-- PxSACT is 0 where no command is issued or accepted
pub quiet_word : (w : ℕ) (past : List Entry) → bits w ≡ sact past → w ≡ 0 → busy past ≡ false
quiet_word w past is zero_word = not_busy past
    (λ t low. idle (phase past t) (sym (has_place-places (λ u. in_sact (phase past u)) t low) ∙ ap (λ s. has_place s t) (sym is ∙ ap bits zero_word ∙ bits_zero) ∙ has_place-no_places t))

pub busy_word : (w : ℕ) (past : List Entry) → bits w ≡ sact past → w < 2 ^ 32 → halted past ≡ false → w ≢ 0 → busy past ≡ true
busy_word w past is small calm some = by (busy past) refl
  where
    by : (b : Bool) → busy past ≡ b → busy past ≡ true
    by true e = e
    by false e = absurd (some (same_word w 0 small (omega arith) (is ∙ quiet_sact past calm e ∙ sym bits_zero)))

-- a command that is not queued leaves the disk as it is
pub plain_state : (disk : DiskState) (bytes : List ℕ) (f : H2dFields) → disk.error ≡ None → command_in bytes ≡ Some f → queued_in f ≡ None → (verdict disk bytes).state ≡ disk
plain_state disk bytes f calm there unqueued =
    ap (λ o. (cond (is_some o) (stopped_verdict disk (command_in bytes)) (running_verdict disk (command_in bytes))).state) calm
    ∙ ap (λ o. (running_verdict disk o).state) there ∙ ap (λ o. (by_kind disk f o).state) unqueued ∙ outer (f.command == 0xEC) (f.command == 0xEA)
  where
    inner : (command : Plain) (b : Bool) → (cond b (aborted disk) (passed disk command)).state ≡ disk
    inner command true = refl
    inner command false = refl

    outer : (a b : Bool) → (cond a (idle_verdict disk plain.Identify) (cond b (idle_verdict disk plain.Flush) (aborted disk))).state ≡ disk
    outer true b = inner plain.Identify (verdict.is_busy disk)
    outer false true = inner plain.Flush (verdict.is_busy disk)
    outer false false = refl

-- what no refusal of a command that is not queued says
pub plain_may : (port : PortView) → plain_refusal port ≡ None → (halted port.past ≡ false) × (busy port.past ≡ false)
plain_may port e = by (halted port.past) (busy port.past) refl refl e
  where
    by : (a b : Bool) → halted port.past ≡ a → busy port.past ≡ b → cond a (Some fault.Halted) (cond b (Some fault.QueueBusy) None) ≡ None → (halted port.past ≡ false) × (busy port.past ≡ false)
    by true b p q h = absurd (cc)
    by false true p q h = absurd (cc)
    by false false p q h = (p, q)

-- a command that is journalled as itself passes an idle disk, and leaves it as it is
pub passes : (command : Plain) (disk : DiskState) → IsJournalled command → disk.error ≡ None → verdict.is_busy disk ≡ false → Passes command disk
passes plain.Identify disk h calm idle = (calm, idle)
passes plain.Flush disk h calm idle = (calm, idle)
passes plain.ReadLog disk h calm idle = absurd h

pub disk_same : (command : Plain) (disk : DiskState) → IsJournalled command → disk_after command disk ≡ disk
disk_same plain.Identify disk h = refl
disk_same plain.Flush disk h = refl
disk_same plain.ReadLog disk h = absurd h

pub identify_state : (disk : DiskState) → disk.error ≡ None → (verdict disk (cfis_for plain.Identify)).state ≡ disk
identify_state disk calm = plain_state disk (cfis_for plain.Identify) (h2d_at (cfis_for plain.Identify)) calm refl refl

pub flush_state : (disk : DiskState) → disk.error ≡ None → (verdict disk (cfis_for plain.Flush)).state ≡ disk
flush_state disk calm = plain_state disk (cfis_for plain.Flush) (h2d_at (cfis_for plain.Flush)) calm refl refl

-- none of these is a command
no_command : (commands : List (Option QueuedFields)) → ((t : ℕ) → get_or commands t None ≡ None) → list_any is_some commands ≡ false
no_command [] none = refl
no_command (c ∷ commands) none = ap (λ o. is_some o || list_any is_some commands) (none 0) ∙ no_command commands (λ t. none (suc t))

-- no command is outstanding in the disk of a port whose queue is idle
pub idle_disk : (starting : List ℕ) (disk : DiskState) (regs : PortState) (slots : List (Option SlotState)) (headers : List (List ℕ)) (past : List Entry) (free : ℕ)
    → Keeps starting disk regs slots headers past free → busy past ≡ false → verdict.is_busy disk ≡ false
idle_disk starting disk regs slots headers past free k still = no_command disk.commands (λ t. k.commands t ∙ by t (slot_at slots t) (k.each t))
  where
    quiet_slot : (slot : SlotState) (b : Bool) → in_device slot.phase ≡ false → outstanding_in b (Some slot) ≡ None
    quiet_slot slot b e = ap (λ d. cond (d && not b) (Some (queued_of slot.window)) None) e

    away : (p : Phase) → is_busy p ≡ false → in_device p ≡ false
    away Issued e = absurd (true≢false e)
    away Accepted e = absurd (true≢false e)
    away _ e = refl

    by : (t : ℕ) (s : Option SlotState) → HasSlot starting past t s → outstanding_in (halted past) s ≡ None
    by t None h = refl
    by t (Some slot) h =
        let deep = below_depth (length starting / 512) disk.depth past t (phase past t) k.lawful refl (λ e. h.taken (sym h.phase_is ∙ e)) in
        let shallow = k.shape.shallow in
        let low : t < 32 = omega arith in
        quiet_slot slot (halted past) (away slot.phase (ap is_busy (sym h.phase_is) ∙ lacks (λ u. is_busy (phase past u)) t low still))

-- the commands that are not queued are let through while no command is outstanding
pub identify_passes : (disk : DiskState) → disk.error ≡ None → verdict.is_busy disk ≡ false → (verdict disk (cfis_for plain.Identify)).answer ≡ taken.Plain plain.Identify
identify_passes disk calm idle_now =
    ap (λ o. (cond (is_some o) (stopped_verdict disk (command_in (cfis_for plain.Identify))) (running_verdict disk (command_in (cfis_for plain.Identify)))).answer) calm
    ∙ ap (λ b. (cond b (aborted disk) (passed disk plain.Identify)).answer) idle_now

pub flush_passes : (disk : DiskState) → disk.error ≡ None → verdict.is_busy disk ≡ false → (verdict disk (cfis_for plain.Flush)).answer ≡ taken.Plain plain.Flush
flush_passes disk calm idle_now =
    ap (λ o. (cond (is_some o) (stopped_verdict disk (command_in (cfis_for plain.Flush))) (running_verdict disk (command_in (cfis_for plain.Flush)))).answer) calm
    ∙ ap (λ b. (cond b (aborted disk) (passed disk plain.Flush)).answer) idle_now
