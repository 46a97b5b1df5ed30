-- Which step the device can take next with the command of a slot, and what it does (AHCI 1.3.1, sections 5.3, 6.2.2 and 10.4.1).
use Rattle.std.specs.Prelude.{◌≡◌, ℕ, Bool, true, false, not, ◌&&◌, ◌||◌, nat_eq, List, Option, None, Some, is_some, if◌then◌else◌}
use Rattle.std.specs.List.{list_any}
use Rattle.hba_command.specs.Action.{action_of}
use Rattle.hba_command.specs.declared.action.Action.{Action}
use Rattle.hba_command.specs.declared.action.Action.TheVariants as action
use Rattle.hba_command.specs.declared.log.Log.TheVariants.{Host, Pages, QueuedError}
use Rattle.hba_command.specs.declared.page.Page.TheVariants.{Disk, Identify, Log}
use Rattle.hba_command.specs.declared.trim_range.TrimRange.{TrimRange}
use Rattle.ncq_journal.specs.Halted.{halted}
use Rattle.ncq_journal.specs.History.{History}
use Rattle.ncq_journal.specs.Phase.{phase}
use Rattle.ncq_journal.specs.Request.{request}
use Rattle.ncq_journal.specs.Work.{Work, Read}
use Rattle.ahci_port.specs.Faults.{is_accepted, is_issued, is_of_request, op_refusal, plain_refusal}
use Rattle.ahci_hba.specs.Delivering.{answered, sends_data}
use Rattle.ahci_hba.specs.Executing.{IsExecuted, MayLackAt, is_aborted, is_alone_fetched}
use Rattle.sata_fis.specs.Fields.{QueuedFields}
use Rattle.ahci_hba.specs.Failing.{Fails, fails_at, own_in}
use Rattle.ahci_hba.specs.HbaView.{CommandView, Fetched, HbaView, DmaView, Served, Pio}
use Rattle.ahci_hba.specs.Marking.{marked_for}
use Rattle.ahci_hba.specs.Queueing.{IsAccepted, IsServed, Sends, asked_for, command_at, fetching, goes_to_port, has_alone, has_queued, has_tag, is_failed, is_listening, is_on, is_ready, is_running, is_sent, list_in, may_fetch, task_in}
use Rattle.ahci_hba.specs.Recovering.{ReadsErrorLog, error_log_in}
use Rattle.ahci_hba.specs.Resetting.{IsControlled, control_in, control_journal}
use Rattle.ahci_hba.specs.Storing.{content_in}
use Rattle.ahci_hba.specs.Zeroing.{can_zero, makes_zeros, zeroed_next}
use Rattle.ahci_hba.specs.declared.fault.HbaFault.{HbaFault}
use Rattle.ahci_hba.specs.declared.fault.HbaFault.TheVariants.{NotReady, OutOfMemory}
use Rattle.ahci_hba.specs.declared.step.Step.{Step}
use Rattle.ahci_hba.specs.declared.step.Step.TheVariants as step

-- a command that is with the port waits for the device, or the device has taken it; after a failure neither moves
abbrev pub is_waiting : HbaView → ℕ → Bool
is_waiting h slot = is_sent (command_at h slot) && (not (halted h.port.past) && is_issued (phase h.port.past slot))

abbrev pub is_taken_up : HbaView → ℕ → Bool
is_taken_up h slot = is_sent (command_at h slot) && (not (halted h.port.past) && is_accepted (phase h.port.past slot))

abbrev pub may_accept : HbaView → ℕ → Bool
may_accept h slot = is_ready h && is_waiting h slot

abbrev pub may_serve : HbaView → ℕ → Bool
may_serve h slot = is_ready h && is_taken_up h slot

-- the device fails a queued command, at one of its sectors
abbrev pub may_fail_at : HbaView → ℕ → ℕ → Option QueuedFields → Bool
may_fail_at h slot lba (Some q) = is_of_request (request h.port.past slot) (fails_at q lba)
may_fail_at h slot lba None = false

abbrev pub may_fail : HbaView → ℕ → ℕ → Bool
may_fail h slot lba = may_serve h slot && may_fail_at h slot lba (own_in h slot lba)

-- the marked sector at which a read of a slot fails. One that is not queued is tested before it goes to the port, and no other command comes then
abbrev pub marked_at : HbaView → ℕ → Option ℕ
marked_at h slot = marked_for h (action_of (task_in (command_at h slot)))

-- a queued one fails there if its request has that sector
abbrev pub stop_for : HbaView → ℕ → Option ℕ → Option ℕ
stop_for h slot None = None
stop_for h slot (Some lba) = if may_fail h slot lba then Some lba else None

-- the device serves a command, or fails it at a marked sector
abbrev pub ServesTo : (stop : Option ℕ) → ℕ → HbaView → HbaView → Type 0
ServesTo None slot old new = IsServed slot (task_in (command_at old slot)) (list_in (command_at old slot)) old new
ServesTo (Some lba) slot old new = Fails slot 0x40 lba (own_in old slot lba) old new

abbrev pub Serves : ℕ → HbaView → HbaView → Type 0
Serves slot old new = ServesTo (stop_for old slot (marked_at old slot)) slot old new

-- what a command that was read asks of the disk
abbrev pub work_at : Option CommandView → Work
work_at (Some (Fetched t list bytes)) = asked_for t bytes
work_at other = Read 0 0

-- a command goes to the port, which takes it; a port after a failure takes none
abbrev pub may_send : HbaView → ℕ → Bool
may_send h slot =
    is_ready h && ((not (is_some h.device.collision) && goes_to_port h (command_at h slot)) && not (is_some (op_refusal h.port slot (work_at (command_at h slot)))))

abbrev pub may_control : HbaView → ℕ → Bool
may_control h slot = is_listening h && is_some (control_in (command_at h slot))

-- the log of a failed queued command is read, while no queued one is outstanding
abbrev pub may_recover : HbaView → ℕ → Bool
may_recover h slot =
    is_ready h && (is_some (error_log_in (command_at h slot)) && (halted h.port.past && not (list_any has_queued h.slots)))

-- the device answers a command itself: it aborts it, or the port moves no sectors for it
abbrev pub is_answered : HbaView → Action → Bool
is_answered h (action.Queue q) = is_failed h || not (has_tag h q)
is_answered h (action.Sectors write span p) =
    is_aborted h (action.Sectors write span p) || not (is_on h.port span) || is_some (marked_for h (action.Sectors write span p))
is_answered h (action.Page Identify p) = is_aborted h (action.Page Identify p) || not (is_some (plain_refusal h.port))
is_answered h (action.Page (Log (Pages l pages)) p) = true
is_answered h (action.Page (Log (Host pages)) p) = true
is_answered h (action.Page (Log QueuedError) p) = list_any has_queued h.slots || not (halted h.port.past)
is_answered h (action.Page (Disk page) p) = true
is_answered h (action.Store s p) = is_aborted h (action.Store s p) || not (makes_zeros h s) || can_zero h.port
is_answered h (action.Flush a) = is_aborted h (action.Flush a) || not (is_some (plain_refusal h.port))
is_answered h (action.Reply r) = true
is_answered h (action.Control reset) = false
is_answered h action.Abort = true

-- of a command that is read
abbrev pub is_answered_at : HbaView → Option CommandView → Bool
is_answered_at h (Some (Fetched t list bytes)) = is_answered h (action_of t)
is_answered_at h other = false

abbrev pub may_execute : HbaView → ℕ → Bool
may_execute h slot = is_ready h && is_answered_at h (command_at h slot)

-- the sectors that it makes zeros by that, if it does
abbrev pub zeroed_by : HbaView → Action → List ℕ → Option TrimRange
zeroed_by h (action.Store s p) bytes = zeroed_next h s bytes
zeroed_by h other bytes = None

abbrev pub trim_range : HbaView → ℕ → Option TrimRange
trim_range h slot =
    if may_execute h slot && not (is_aborted h (action_of (task_in (command_at h slot)))) then zeroed_by h (action_of (task_in (command_at h slot))) (content_in (command_at h slot))
    else None

-- the device fails a command that is read and not queued
abbrev pub may_refuse : HbaView → ℕ → Bool
may_refuse h slot = is_ready h && is_alone_fetched (command_at h slot)

-- the port has done the command of this slot, and its answer is to be put together; of a transfer by PIO the next block. Its FISes are accepted
-- in P:Idle while FRE is 1
abbrev pub delivers_for : DmaView → ℕ → Bool
delivers_for (Served s t window list) slot = nat_eq s slot
delivers_for (Pio t) slot = nat_eq t.slot slot
delivers_for other slot = false

abbrev pub may_deliver : HbaView → ℕ → Bool
may_deliver h slot = is_running h.registers.port && (h.registers.port.fre && delivers_for h.dma slot)

abbrev pub delivery : HbaView → ℕ → Option Step
delivery h slot = if may_deliver h slot then Some step.Deliver else None

-- the next step with the command of a slot: there is one at most but for the order of these lines, which decides
abbrev pub queue_step : HbaView → ℕ → Option Step
queue_step h slot =
    if may_send h slot then Some step.Send
    else if may_accept h slot then Some step.Accept
    else if may_serve h slot then Some step.Serve
    else delivery h slot

abbrev pub next_step : HbaView → ℕ → Option Step
next_step h slot =
    if may_fetch h slot then Some step.Fetch
    else if may_control h slot then Some step.Control
    else if may_execute h slot then Some step.Execute
    else if may_recover h slot then Some step.Recover
    else queue_step h slot

-- whether a step is one of the device with a command: a fetch is the controller's alone, and a control FIS is no command
abbrev pub is_answering : Step → Bool
is_answering step.Fetch = false
is_answering step.Control = false
is_answering step.Send = true
is_answering step.Accept = true
is_answering step.Serve = true
is_answering step.Deliver = true
is_answering step.Execute = true
is_answering step.Recover = true

abbrev pub answers : Option Step → Bool
answers None = false
answers (Some s) = is_answering s

-- what a step does, and the journal that is handed out if it resets the port
abbrev pub IsTaken : Step → ℕ → HbaView → HbaView → Option History → Type 0
IsTaken step.Fetch slot old new journal = (new ≡ fetching old slot) × (journal ≡ None)
IsTaken step.Send slot old new journal = Sends slot (command_at old slot) old new × (journal ≡ None)
IsTaken step.Accept slot old new journal = IsAccepted slot (has_alone (command_at old slot)) old new × (journal ≡ None)
IsTaken step.Serve slot old new journal = Serves slot old new × (journal ≡ None)
IsTaken step.Deliver slot old new journal = (new ≡ answered old old.dma) × (journal ≡ None)
IsTaken step.Execute slot old new journal = IsExecuted slot old new × (journal ≡ None)
IsTaken step.Control slot old new journal = IsControlled slot old new × (journal ≡ control_journal old (control_in (command_at old slot)))
IsTaken step.Recover slot old new journal = ReadsErrorLog slot old new journal

-- an allocation can be refused in a step: never where the device only takes a command, serves one that finds no mark, or takes a control FIS
abbrev pub StepMayLack : Step → ℕ → HbaView → Type 0
StepMayLack step.Fetch slot h = ⊥
StepMayLack step.Send slot h = Unit {0}
StepMayLack step.Accept slot h = ⊥
StepMayLack step.Serve slot h = is_some (marked_at h slot) ≡ true
StepMayLack step.Deliver slot h = sends_data h.dma ≡ true
StepMayLack step.Execute slot h = MayLackAt slot h
StepMayLack step.Control slot h = ⊥
StepMayLack step.Recover slot h = Unit {0}

-- why the device does not fail a command: it can't, or an allocation failed
abbrev pub RefusesFor : HbaFault → Bool → Type 0
RefusesFor NotReady possible = possible ≡ false
RefusesFor OutOfMemory possible = Unit {0}

-- why a step that is possible fails, and one that is not
abbrev pub fault_if : Bool → HbaFault
fault_if possible = if possible then OutOfMemory else NotReady
