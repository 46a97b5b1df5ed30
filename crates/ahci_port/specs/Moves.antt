-- What the port's calls do with one slot.
use Rattle.std.specs.Prelude.{ℕ, Bool, true, false, None, Some}
use Rattle.ahci_table.specs.Window.{WindowState}
use Rattle.ncq_journal.specs.declared.outcome.Outcome.{Outcome}
use Rattle.ncq_journal.specs.declared.outcome.Outcome.TheVariants as outcome
use Rattle.ncq_journal.specs.declared.phase.Phase.TheVariants as phase
use Rattle.ncq_core.specs.declared.serve_fault.ServeFault.{ServeFault}
use Rattle.ncq_core.specs.declared.serve_fault.ServeFault.TheVariants as serve_fault
use Rattle.ahci_table.specs.declared.fault.TableFault.{TableFault}
use Rattle.ahci_table.specs.declared.fault.TableFault.TheVariants as table
use Rattle.sata_fis.specs.Fields.{QueuedFields}
use Rattle.ahci_port.specs.declared.fault.IssueFault.{IssueFault}
use Rattle.ahci_port.specs.declared.fault.IssueFault.TheVariants as issue
use Rattle.ncq_journal.specs.Phase.{failed, recovered}
use Rattle.ahci_port.specs.declared.fault.StepFault.{StepFault}
use Rattle.ahci_port.specs.declared.fault.StepFault.TheVariants.{Halted, NotAccepted, OutsideCommand}
use Rattle.ahci_port.specs.Slots.{SlotState}

-- the slot once its command is issued again, or accepted
abbrev pub reissued_slot : SlotState → SlotState
reissued_slot slot = record slot { phase = phase.Issued }

abbrev pub accepted_slot : SlotState → SlotState
accepted_slot slot = record slot { phase = phase.Accepted }

-- the slot of a command that has failed, at an entry
abbrev pub failed_slot : SlotState → ℕ → ℕ → ℕ → SlotState
failed_slot slot entry error lba = record slot { phase = failed slot.phase; ended = Some (record { entry = entry; outcome = outcome.Failed error lba }) }

-- a slot once the port has recovered
abbrev pub recovered_slot : SlotState → SlotState
recovered_slot slot = record slot { phase = recovered slot.phase }

-- how a command ends that doesn't fail
abbrev pub outcome_of : Bool → Outcome
outcome_of true = outcome.Wrote
outcome_of false = outcome.Read

-- the slot once its command is completed, at an entry, with its window then
abbrev pub served_slot : SlotState → ℕ → WindowState → SlotState
served_slot slot entry w = record slot { phase = phase.Done; ended = Some (record { entry = entry; outcome = outcome_of slot.is_write }); window = w }

-- the port's fault where the disk has refused to end a command
abbrev pub step_fault_of : ServeFault → StepFault
step_fault_of serve_fault.Stopped = Halted
step_fault_of serve_fault.NotAccepted = NotAccepted
step_fault_of serve_fault.OutsideCommand = OutsideCommand

-- the slot of a command that is issued
abbrev pub issued_slot : ℕ → QueuedFields → WindowState → SlotState
issued_slot place q w =
    record { place = place; is_write = q.write; lba = q.lba; sectors = q.sectors; phase = phase.Issued; ended = None; window = w }

-- the port's fault where the rule of a window is broken
abbrev pub issue_fault_of : TableFault → IssueFault
issue_fault_of table.BadHeader = issue.BadHeader
issue_fault_of table.BadCommand = issue.BadCommand
issue_fault_of table.WrongTag = issue.WrongTag
issue_fault_of table.BadList = issue.BadList
