-- The device ends a command exactly where the journal allows it.
use Rattle.std.proofs.Common.{◌≡◌, ℕ, ◌+◌, ◌/◌, ◌<◌, Bool, true, false, ◌&&◌, cond, List, length, leb, ltb, ap, sym, refl, subst, ◌∙◌, Option, None, Some, is_some, Ok, Err, arith}
use Rattle.std.specs.Option.{option_map}
use Rattle.std.proofs.lemmas.Bool.{false≢true}
use Rattle.ahci_regs.specs.PortState.{PortState}
use Rattle.ahci_table.specs.Command.{op, queued_of}
use Rattle.ncq_journal.specs.declared.phase.Phase.{Phase}
use Rattle.ncq_journal.specs.declared.phase.Phase.TheVariants.{Free, Issued, Accepted}
use Rattle.ncq_core.specs.declared.serve_fault.ServeFault.{ServeFault}
use Rattle.ncq_core.specs.declared.serve_fault.ServeFault.TheVariants as serve_fault
use Rattle.ncq_core.specs.DiskState.{DiskState, command_of}
use Rattle.ncq_journal.specs.Entry.{Entry, Fail}
use Rattle.ncq_journal.specs.Halted.{halted}
use Rattle.ncq_journal.specs.Image.{covers}
use Rattle.ncq_journal.specs.Lawful.{IsAllowed, Fails}
use Rattle.ncq_journal.specs.Laws.{owed_less}
use Rattle.ncq_journal.specs.Phase.{phase}
use Rattle.ncq_journal.proofs.OwedLemmas.{owed_moves}
use Rattle.ncq_journal.specs.Request.{Request, request}
use Rattle.ncq_core.specs.Serving.{answered, fail_fault, is_at_command, covers_sector}
use Rattle.ncq_journal.specs.Tags.{in_device}
use Rattle.ncq_journal.specs.Work.{sectors_of}
use Rattle.sata_fis.specs.Fields.{QueuedFields}
use Rattle.ahci_port.specs.Faults.{is_issued, is_accepted, is_of_request, step_refusal}
use Rattle.ahci_port.specs.PortView.{PortView}
use Rattle.ahci_port.specs.declared.step.DeviceStep.TheVariants as step
use Rattle.ahci_port.specs.Keeping.{Keeps, Holds, HasSlot, slot_at}
use Rattle.ahci_port.specs.Moves.{step_fault_of}
use Rattle.ahci_port.specs.Slots.{SlotState, outstanding_in}
use Rattle.ahci_port.specs.declared.fault.StepFault.{StepFault}
use Rattle.ahci_port.specs.declared.fault.StepFault.TheVariants as fault
use Rattle.ahci_port.proofs.AcceptingLemmas.{request_has}
use Rattle.ahci_port.proofs.MemoryLemmas.{fit_sized}
use Rattle.ahci_port.proofs.OwningLemmas.{Owned, no_reason, owned}
use Rattle.ahci_port.proofs.ReadingLemmas.{stopped_here}
use Rattle.ahci_port.proofs.WorkLemmas.{op_lba, op_sectors}

same_device : (p : Phase) → in_device p ≡ is_accepted p
same_device Free = refl
same_device _ = refl

-- why the device does not fail a tag's command, by the journal
abbrev refusal : Bool → Phase → Option Request → ℕ → Option StepFault
refusal stopped p r at = cond stopped (Some fault.Halted) (cond (is_accepted p) (cond (is_of_request r at) None (Some fault.OutsideCommand)) (Some fault.NotAccepted))

-- and by the disk
abbrev disk_refusal : Bool → Option QueuedFields → ℕ → Option StepFault
disk_refusal stopped command at = option_map step_fault_of
    (cond stopped (Some serve_fault.Stopped) (cond (is_some command) (cond (is_at_command command at) None (Some serve_fault.OutsideCommand)) (Some serve_fault.NotAccepted)))

covered : (slot : SlotState) (at : ℕ) (starting : List ℕ) (past : List Entry) (tag : ℕ) → Holds starting past tag slot → covers_sector (queued_of slot.window) at ≡ covers (op slot.window) at
covered slot at starting past tag h =
    let lba = op_lba slot.window in
    let count = op_sectors slot.window (fit_sized slot.window h.fit) in
    sym (ap (λ n. leb n at && ltb at (n + sectors_of (op slot.window))) lba ∙ ap (λ m. leb (queued_of slot.window).lba at && ltb at ((queued_of slot.window).lba + m)) count)

slot_agrees : (starting : List ℕ) (past : List Entry) (tag at : ℕ) (stopped : Bool) (s : Option SlotState) → HasSlot starting past tag s
    → disk_refusal stopped (outstanding_in stopped s) at ≡ refusal stopped (phase past tag) (request past tag) at
slot_agrees starting past tag at true s h = refl
slot_agrees starting past tag at false None h = sym (ap (λ p. refusal false p (request past tag) at) h)
slot_agrees starting past tag at false (Some slot) h =
    ap (λ b. disk_refusal false (cond (b && true) (Some (queued_of slot.window)) None) at) (same_device slot.phase)
    ∙ by (is_accepted slot.phase)
    ∙ ap (λ b. cond (is_accepted slot.phase) (cond b None (Some fault.OutsideCommand)) (Some fault.NotAccepted)) (covered slot at starting past tag h)
    ∙ sym (ap (λ p. refusal false p (request past tag) at) h.phase_is ∙ ap (λ r. refusal false slot.phase r at) h.request_is)
  where
    q : QueuedFields
    q = queued_of slot.window

    by : (b : Bool) → disk_refusal false (cond (b && true) (Some (queued_of slot.window)) None) at ≡ cond b
        (cond (covers_sector (queued_of slot.window) at) None (Some fault.OutsideCommand)) (Some fault.NotAccepted)
    by true = inner (covers_sector (queued_of slot.window) at)
      where
        inner : (x : Bool) → option_map step_fault_of (cond x None (Some serve_fault.OutsideCommand)) ≡ cond x None (Some fault.OutsideCommand)
        inner true = refl
        inner false = refl
    by false = refl

pub fail_agrees : (starting : List ℕ) (disk : DiskState) (regs : PortState) (slots : List (Option SlotState)) (headers : List (List ℕ)) (past : List Entry) (free tag at : ℕ)
    → Keeps starting disk regs slots headers past free → option_map step_fault_of (fail_fault disk tag at) ≡ refusal (halted past) (phase past tag) (request past tag) at
fail_agrees starting disk regs slots headers past free tag at k =
    ap (λ b. disk_refusal b (command_of disk tag) at) (stopped_here starting disk regs slots headers past free k)
    ∙ ap (λ o. disk_refusal (halted past) o at) (k.commands tag)
    ∙ slot_agrees starting past tag at (halted past) (slot_at slots tag) (k.each tag)

pub answered_err : (o : Option ServeFault) (bytes : List ℕ) (f : ServeFault) → Err f ≡ answered o bytes → o ≡ Some f
answered_err None bytes f e = absurd (cc)
answered_err (Some x) bytes f e = cc

pub answered_ok : (o : Option ServeFault) (bytes b : List ℕ) → Ok b ≡ answered o bytes → (o ≡ None) × (b ≡ bytes)
answered_ok None bytes b e = (refl, cc)
answered_ok (Some x) bytes b e = absurd (cc)

pub accepted_is : (p : Phase) → is_accepted p ≡ true → p ≡ Accepted
accepted_is Accepted e = refl
accepted_is _ e = absurd (false≢true e)

-- what no refusal of a Fail says
none_refused : (stopped : Bool) (p : Phase) (r : Option Request) (at : ℕ) → refusal stopped p r at ≡ None → (stopped ≡ false) × (p ≡ Accepted) × (is_of_request r at ≡ true)
none_refused stopped p r at e = by stopped (is_accepted p) (is_of_request r at) refl refl refl e
  where
    by : (a b x : Bool) → stopped ≡ a → is_accepted p ≡ b → is_of_request r at ≡ x
        → cond a (Some fault.Halted) (cond b (cond x None (Some fault.OutsideCommand)) (Some fault.NotAccepted)) ≡ None → (stopped ≡ false) × (p ≡ Accepted) × (is_of_request r at ≡ true)
    by true b x h i j m = absurd (cc)
    by false true true h i j m = (h, accepted_is p i, j)
    by false true false h i j m = absurd (cc)
    by false false x h i j m = absurd (cc)

-- what a tag has whose command may fail
pub record MayFailNow (starting : List ℕ) (depth : ℕ) (past : List Entry) (slots : List (Option SlotState)) (free tag error at : ℕ) : Type 0 where
  pub accepted : phase past tag ≡ Accepted
  pub allowed : IsAllowed (length starting / 512) depth past (Fail tag error at)
  pub owner : Owned starting past slots tag
  pub room : 0 < free

pub may_fail : (starting : List ℕ) (disk : DiskState) (regs : PortState) (slots : List (Option SlotState)) (headers : List (List ℕ)) (past : List Entry) (free tag error at : ℕ)
    → Keeps starting disk regs slots headers past free → fail_fault disk tag at ≡ None → MayFailNow starting disk.depth past slots free tag error at
may_fail starting disk regs slots headers past free tag error at k none =
    let n = none_refused (halted past) (phase past tag) (request past tag) at (sym (fail_agrees starting disk regs slots headers past free tag at k) ∙ ap (option_map step_fault_of) none) in
    let o = owned starting disk regs slots headers past free tag k (λ e. absurd (let z : Accepted ≡ Free = sym n.1 ∙ e in cc)) in
    let inside : covers (op o.slot.window) at ≡ true = sym (ap (λ r. is_of_request r at) o.holds.request_is) ∙ n.2 in
    let allowed : IsAllowed (length starting / 512) disk.depth past (Fail tag error at) = (
      n.0,
      request_has starting past tag o.slot (λ r. Fails (length starting / 512) (phase past tag) r.work error at) o.holds
          (subst (λ p. Fails (length starting / 512) p (op o.slot.window) error at) (sym n.1) inside),
    ) in
    let moves = owed_moves _ disk.depth past (Fail tag error at) k.shape.shallow (k.lawful, allowed) in
    let less : owed_less (phase past tag) ≡ 1 = ap owed_less n.1 in
    record { accepted = n.1; allowed = allowed; owner = o; room = (let r = k.room in omega arith) }

issued_is : (p : Phase) → is_issued p ≡ true → p ≡ Issued
issued_is Issued e = refl
issued_is _ e = absurd (false≢true e)

-- what no refusal of an Accept says
pub accept_may : (port : PortView) (tag : ℕ) → step_refusal port (step.Accept tag) ≡ None → (phase port.past tag ≡ Issued) × (halted port.past ≡ false)
accept_may port tag e =
    let neither = no_reason (halted port.past) (is_issued (phase port.past tag)) fault.Halted fault.NotIssued e in
    (issued_is (phase port.past tag) neither.1, neither.0)
