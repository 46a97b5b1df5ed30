-- What recovery reads from the log.
use Rattle.std.proofs.Common.{◌≡◌, ℕ, ◌/◌, ◌<◌, Bool, true, false, cond, map, ◌%◌, List, [], ◌∷◌, ◌++◌, length, take, drop, get_or, ap, sym, refl, ◌∙◌, subst, Option}
use Rattle.std.proofs.Common.{None, Some, IsSomeAnd, arith}
use Rattle.std.specs.Option.{option_map}
use Rattle.ncq_journal.proofs.PhaseLemmas.{below_depth}
use Rattle.ahci_port.specs.Moves.{recovered_slot}
use Rattle.ahci_port.proofs.RecoveringLemmas.{failed_taken}
use Rattle.std.proofs.lemmas.List.{append-nil, take_all, drop_all}
use Rattle.ahci_regs.specs.PortState.{PortState}
use Rattle.ncq_core.specs.DiskState.{DiskState, DiskError, is_stopped}
use Rattle.ncq_journal.specs.Entry.{Entry}
use Rattle.ncq_journal.specs.Halted.{halted}
use Rattle.ncq_core.specs.Log.{log_page}
use Rattle.ncq_journal.specs.Phase.{phase, is_failed}
use Rattle.ncq_core.specs.Verdict.{verdict, command_in, stopped_verdict, running_verdict, is_read_log, passed, aborted}
use Rattle.ncq_journal.specs.declared.plain.Plain.TheVariants as plain
use Rattle.sata_fis.specs.Fields.{H2dFields}
use Rattle.ahci_port.specs.Keeping.{Keeps}
use Rattle.ahci_port.specs.Slots.{SlotState, window_in}
use Rattle.ahci_port.specs.Standing.{last_failure}
use Rattle.ahci_port.specs.Unqueued.{cfis_for}
use Rattle.ncq_core.specs.declared.taken.Taken.TheVariants as taken
use Rattle.ahci_port.proofs.FailureLemmas.{failed_tag}

-- during an error condition a command changes nothing
pub stopped_state : (disk : DiskState) (bytes : List ℕ) → is_stopped disk ≡ true → (verdict disk bytes).state ≡ disk
stopped_state disk bytes stopped =
    ap (λ b. (cond b (stopped_verdict disk (command_in bytes)) (running_verdict disk (command_in bytes))).state) stopped ∙ by (command_in bytes)
  where
    inner : (b : Bool) → (cond b (passed disk plain.ReadLog) (aborted disk)).state ≡ disk
    inner true = refl
    inner false = refl

    by : (o : Option H2dFields) → (stopped_verdict disk o).state ≡ disk
    by None = refl
    by (Some f) = inner (is_read_log f)

-- the log names a failed tag
pub logged : (starting : List ℕ) (disk : DiskState) (regs : PortState) (slots : List (Option SlotState)) (headers : List (List ℕ)) (past : List Entry) (free : ℕ)
    → Keeps starting disk regs slots headers past free → halted past ≡ true → IsSomeAnd disk.error (λ e. is_failed (phase past e.tag) ≡ true)
logged starting disk regs slots headers past free k stopped =
    subst (λ o. IsSomeAnd o (λ e. is_failed (phase past e.tag) ≡ true)) (sym (k.error_is ∙ ap (λ b. cond b (last_failure past) None) stopped))
    (failed_tag (length starting / 512) disk.depth past k.shape.shallow k.lawful stopped)

-- the tag in byte 0 of the page
page_tag : (e : DiskError) → e.tag < 32 → get_or (log_page e) 0 0 % 32 ≡ e.tag
unfolding log_page
page_tag e low = omega arith

-- the failed tag, by the page that was read
pub tag_of_page : (o : Option DiskError) (page : List ℕ) (past : List Entry) → IsSomeAnd o (λ e. is_failed (phase past e.tag) ≡ true)
    → IsSomeAnd o (λ e. page ≡ log_page e) → ((t : ℕ) → is_failed (phase past t) ≡ true → t < 32)
    → is_failed (phase past (get_or page 0 0 % 32)) ≡ true
tag_of_page None page past bad is low = absurd bad
tag_of_page (Some e) page past bad is low = ap (λ x. is_failed (phase past (get_or x 0 0 % 32))) is ∙ ap (λ t. is_failed (phase past t)) (page_tag e (low e.tag bad)) ∙ bad

pub failed_low : (starting : List ℕ) (disk : DiskState) (regs : PortState) (slots : List (Option SlotState)) (headers : List (List ℕ)) (past : List Entry) (free : ℕ)
    → Keeps starting disk regs slots headers past free → (t : ℕ) → is_failed (phase past t) ≡ true → t < 32
failed_low starting disk regs slots headers past free k t bad =
    let b = below_depth (length starting / 512) disk.depth past t (phase past t) k.lawful refl (failed_taken (phase past t) bad) in
    let d = k.shape.shallow in
    omega arith

-- the windows stay when the slots recover
pub windows_recover : (slots : List (Option SlotState)) → map window_in (map (option_map recovered_slot) slots) ≡ map window_in slots
windows_recover [] = refl
windows_recover (None ∷ slots) = ap (λ xs. None ∷ xs) (windows_recover slots)
windows_recover (Some slot ∷ slots) = ap (λ xs. Some slot.window ∷ xs) (windows_recover slots)

-- a list that was written as a whole
pub whole_write : {X : Type 0} (items after : List X) (len : ℕ) → len ≡ length items → length after ≡ length items → take len (after ++ drop (length after) items) ≡ after
whole_write items after len l a =
    ap (λ xs. take len (after ++ xs)) (drop_all (length after) items (omega arith)) ∙ ap (take len) (append-nil after) ∙ take_all len after (omega arith)

-- the command that reads the log is let through during an error condition
pub log_passes : (disk : DiskState) → is_stopped disk ≡ true → (verdict disk (cfis_for plain.ReadLog)).answer ≡ taken.Plain plain.ReadLog
log_passes disk stopped = ap (λ b. (cond b (stopped_verdict disk (command_in (cfis_for plain.ReadLog))) (running_verdict disk (command_in (cfis_for plain.ReadLog)))).answer) stopped
