-- When each call of the port is refused: the first case that holds, in this order (profile). A tag at or above the depth
-- counts as a free slot.
use Rattle.std.specs.Prelude.{◌≡◌, ◌≢◌, ℕ, ◌+◌, ◌<◌, ◌≤◌, Bool, true, false, not, ◌||◌, nat_eq, nat_le, nat_lt, ◌^◌, if◌then◌else◌, List, [], ◌∷◌, length, Option, None, Some, is_some, Result, Err, IsOk, IsOkUnless}
use Rattle.std.specs.List.{list_all, list_any}
use Rattle.std.specs.Option.{option_map, option_or}
use Rattle.ahci_table.specs.declared.fault.TableFault.TheVariants as table
use Rattle.ahci_table.specs.Fit.{IsFit, Breaks}
use Rattle.ahci_table.specs.Window.{WindowState}
use Rattle.ncq_core.specs.DiskState.{new_fault, over_fault}
use Rattle.ncq_core.specs.declared.disk_fault.DiskFault.{DiskFault}
use Rattle.ncq_core.specs.declared.disk_fault.DiskFault.TheVariants as disk
use Rattle.ncq_journal.specs.declared.phase.Phase.{Phase}
use Rattle.ncq_journal.specs.declared.phase.Phase.TheVariants.{Free, Issued, Accepted, Held, Done}
use Rattle.ncq_journal.specs.Entry.{Entry}
use Rattle.ncq_journal.specs.Halted.{halted, busy}
use Rattle.ncq_journal.specs.Image.{covers}
use Rattle.ncq_journal.specs.Phase.{phase}
use Rattle.ncq_journal.specs.Lawful.{most_sectors}
use Rattle.ncq_journal.specs.Request.{Request, request}
use Rattle.ncq_journal.specs.Work.{Work, is_ragged, lba_of, sectors_of}
use Rattle.ahci_port.specs.PortView.{PortView, is_free, next_number, owner_of, sectors_in}
use Rattle.ahci_port.specs.declared.fault.IssueFault.{IssueFault}
use Rattle.ahci_port.specs.declared.fault.IssueFault.TheVariants as issue
use Rattle.ahci_port.specs.declared.fault.SubmitFault.{SubmitFault}
use Rattle.ahci_port.specs.declared.fault.SubmitFault.TheVariants as submit
use Rattle.ahci_port.specs.declared.fault.StepFault.{StepFault}
use Rattle.ahci_port.specs.declared.fault.StepFault.TheVariants as step_fault
use Rattle.ahci_port.specs.declared.fault.CollectFault.{CollectFault}
use Rattle.ahci_port.specs.declared.fault.CollectFault.TheVariants.{Stranger, NotYet}
use Rattle.ahci_port.specs.declared.fault.RecoverFault.{RecoverFault}
use Rattle.ahci_port.specs.declared.fault.RecoverFault.TheVariants.{NotHalted}
use Rattle.ahci_port.specs.declared.fault.ReissueFault.{ReissueFault}
use Rattle.ahci_port.specs.declared.fault.ReissueFault.TheVariants as reissue
use Rattle.ahci_port.specs.declared.fault.TrimFault.{TrimFault}
use Rattle.ahci_port.specs.declared.fault.TrimFault.TheVariants.{Busy, Spent}
use Rattle.ahci_port.specs.declared.fault.ResetFault.{ResetFault}
use Rattle.ahci_port.specs.declared.fault.ResetFault.TheVariants as reset
use Rattle.ahci_port.specs.declared.fault.ResumeFault.{ResumeFault}
use Rattle.ahci_port.specs.declared.fault.ResumeFault.TheVariants as resume
use Rattle.ahci_port.specs.declared.fault.PlainFault.{PlainFault}
use Rattle.ahci_port.specs.declared.fault.PlainFault.TheVariants as plain
use Rattle.ahci_port.specs.declared.fault.ZeroFault.{ZeroFault}
use Rattle.ahci_port.specs.declared.fault.ZeroFault.TheVariants as zero
use Rattle.ahci_port.specs.declared.step.DeviceStep.{DeviceStep}
use Rattle.ahci_port.specs.declared.step.DeviceStep.TheVariants.{Accept, Serve, Fail}

-- the highest number that a journal's first entry can have (profile)
abbrev pub most_first : ℕ
most_first = 2 ^ 63

-- why a window of this tag is not looked at
abbrev pub early_refusal : PortView → ℕ → Option IssueFault
early_refusal port tag =
    if halted port.past then Some issue.Halted
    else (if nat_le port.depth tag then Some issue.NoSuchTag else (if is_free (phase port.past tag) then None else Some issue.SlotOwned))

-- why a command of so many sectors from an LBA on is not submitted for a tag, memory aside
abbrev pub submit_refusal : PortView → (tag lba sectors : ℕ) → Option SubmitFault
submit_refusal port tag lba sectors =
    if nat_eq sectors 0 || nat_lt most_sectors sectors then Some submit.BadCount
    else (if nat_le (2 ^ 48) lba then Some submit.BadLba else option_map submit.Issue (early_refusal port tag))

-- the same of a command: the bytes of a write are whole sectors
abbrev pub op_refusal : PortView → (tag : ℕ) → Work → Option SubmitFault
op_refusal port tag work = if is_ragged work then Some submit.BadCount else submit_refusal port tag (lba_of work) (sectors_of work)

-- the port takes a command for this tag, if its window is fit
pub record MayTake (port : PortView) (tag : ℕ) : Type 0 where
  pub running : halted port.past ≡ false
  pub below : tag < port.depth
  pub free : phase port.past tag ≡ Free

-- the window is not issued for this reason
abbrev pub RefusesIssue : PortView → WindowState → IssueFault → Type 0
RefusesIssue port w issue.Halted = halted port.past ≡ true
RefusesIssue port w issue.NoSuchTag = (halted port.past ≡ false) × (port.depth ≤ w.tag)
RefusesIssue port w issue.SlotOwned = (halted port.past ≡ false) × (w.tag < port.depth) × (phase port.past w.tag ≢ Free)
RefusesIssue port w issue.BadHeader = MayTake port w.tag × Breaks w table.BadHeader
RefusesIssue port w issue.BadCommand = MayTake port w.tag × Breaks w table.BadCommand
RefusesIssue port w issue.WrongTag = MayTake port w.tag × Breaks w table.WrongTag
RefusesIssue port w issue.BadList = MayTake port w.tag × Breaks w table.BadList
RefusesIssue port w issue.OutOfMemory = MayTake port w.tag × IsFit w

-- the sector is one of the request's command
abbrev pub is_of_request : Option Request → ℕ → Bool
is_of_request None lba = false
is_of_request (Some r) lba = covers r.work lba

abbrev pub is_accepted : Phase → Bool
is_accepted Accepted = true
is_accepted p = false

-- each command of a list of tags is outstanding in the device
abbrev pub are_accepted : List Entry → List ℕ → Bool
are_accepted past tags = list_all (λ tag. is_accepted (phase past tag)) tags

-- a list that names one tag twice
abbrev pub names_twice : List ℕ → Bool
names_twice [] = false
names_twice (tag ∷ tags) = list_any (λ other. nat_eq other tag) tags || names_twice tags

-- a list of tags that can't be served together
abbrev pub is_bad_list : List ℕ → Bool
is_bad_list tags = nat_eq (length tags) 0 || names_twice tags

abbrev pub is_issued : Phase → Bool
is_issued Issued = true
is_issued p = false

-- why the device does not take a step
abbrev pub step_refusal : PortView → DeviceStep → Option StepFault
step_refusal port (Accept tag) =
    if halted port.past then Some step_fault.Halted
    else (if is_issued (phase port.past tag) then None else Some step_fault.NotIssued)
step_refusal port (Serve tags) =
    if halted port.past then Some step_fault.Halted
    else (if are_accepted port.past tags.items then (if is_bad_list tags.items then Some step_fault.BadTags else None) else Some step_fault.NotAccepted)
step_refusal port (Fail tag error at) =
    if halted port.past then Some step_fault.Halted
    else (if is_accepted (phase port.past tag) then (if is_of_request (request port.past tag) at then None else Some step_fault.OutsideCommand) else Some step_fault.NotAccepted)

-- the request of this number is the owner
abbrev pub is_owner : Option ℕ → ℕ → Bool
is_owner None number = false
is_owner (Some owner) number = nat_eq owner number

abbrev pub is_done : Phase → Bool
is_done Done = true
is_done p = false

-- why a request is not collected
abbrev pub collect_refusal : PortView → ℕ → ℕ → Option CollectFault
collect_refusal port tag number =
    if is_owner (owner_of port tag) number then (if is_done (phase port.past tag) then None else Some NotYet) else Some Stranger

-- why no port is made that goes on from an image and a number, want of memory aside
abbrev pub resume_fault_of : DiskFault → ResumeFault
resume_fault_of disk.BadSize = resume.BadSize
resume_fault_of disk.BadDepth = resume.BadDepth
resume_fault_of disk.OutOfMemory = resume.OutOfMemory

abbrev pub first_refusal : Option DiskFault → ℕ → Option ResumeFault
first_refusal fault first = option_or (option_map resume_fault_of fault) (if nat_lt most_first first then Some resume.BadFirst else None)

abbrev pub resume_refusal : List ℕ → ℕ → ℕ → Option ResumeFault
resume_refusal image depth first = first_refusal (new_fault image depth) first

-- why no port is made over a store of so many sectors, want of memory aside
abbrev pub over_refusal : ℕ → ℕ → ℕ → Option ResumeFault
over_refusal sectors depth first = first_refusal (over_fault sectors depth) first

-- no slot is owned
abbrev pub is_vacant : PortView → Bool
is_vacant port = not (list_any is_some port.windows)

-- why the journal is not handed out
abbrev pub trim_refusal : PortView → Option TrimFault
trim_refusal port = if is_vacant port then (if nat_lt most_first (next_number port) then Some Spent else None) else Some Busy

-- why the port is not reset
abbrev pub reset_refusal : PortView → Option ResetFault
reset_refusal port = if nat_lt most_first (next_number port) then Some reset.Spent else None

-- why the port does not recover, want of memory aside
abbrev pub recover_refusal : PortView → Option RecoverFault
recover_refusal port = if halted port.past then None else Some NotHalted

abbrev pub is_held : Phase → Bool
is_held Held = true
is_held p = false

-- why a command is not issued again
abbrev pub reissue_refusal : PortView → ℕ → Option ReissueFault
reissue_refusal port tag =
    if halted port.past then Some reissue.Halted else (if is_held (phase port.past tag) then None else Some reissue.NotHeld)

-- why a command that is not queued is not sent, want of memory aside
abbrev pub plain_refusal : PortView → Option PlainFault
plain_refusal port = if halted port.past then Some plain.Halted else (if busy port.past then Some plain.QueueBusy else None)

-- the same as the fault of a call that makes sectors zeros
abbrev pub zero_fault_of : PlainFault → ZeroFault
zero_fault_of plain.Halted = zero.Halted
zero_fault_of plain.QueueBusy = zero.QueueBusy
zero_fault_of plain.OutOfMemory = zero.OutOfMemory

-- there are no sectors, or not all of them are those of a disk of so many
abbrev pub lacks_sectors : (size lba sectors : ℕ) → Bool
lacks_sectors size lba sectors = nat_eq sectors 0 || nat_lt size (lba + sectors)

-- why sectors are not made zeros, want of memory aside. What is reserved for the write of a slot that is owned is to stay so
abbrev pub run_refusal : PortView → (lba sectors : ℕ) → Option ZeroFault
run_refusal port lba sectors =
    if is_vacant port then (if lacks_sectors (sectors_in port) lba sectors then Some zero.NoSuchSector else None) else Some zero.SlotOwned

abbrev pub zero_refusal : PortView → (lba sectors : ℕ) → Option ZeroFault
zero_refusal port lba sectors = option_or (option_map zero_fault_of (plain_refusal port)) (run_refusal port lba sectors)

-- the call fails exactly with this fault, and else succeeds
abbrev pub Answers : {T E : Type 0} → Result T E → Option E → Type 0
Answers r None = IsOk r
Answers r (Some fault) = r ≡ Err fault

-- the same of a call that takes memory, and may lack it if nothing else refuses it
abbrev pub AnswersOr : {T E : Type 0} → Result T E → Option E → E → Type 0
AnswersOr r None lacking = IsOkUnless r lacking
AnswersOr r (Some fault) lacking = r ≡ Err fault
