-- The faults of the port's calls, as reasons that every crate names alike.
use Rattle.ahci_port.specs.declared.fault.IssueFault.{IssueFault}
use Rattle.ahci_port.specs.declared.fault.IssueFault.TheVariants as issue
use Rattle.ahci_port.specs.declared.fault.StepFault.{StepFault}
use Rattle.ahci_port.specs.declared.fault.StepFault.TheVariants as step
use Rattle.ahci_port.specs.declared.fault.CollectFault.{CollectFault}
use Rattle.ahci_port.specs.declared.fault.CollectFault.TheVariants as collect
use Rattle.ahci_port.specs.declared.fault.ResumeFault.{ResumeFault}
use Rattle.ahci_port.specs.declared.fault.ResumeFault.TheVariants as resume
use Rattle.ahci_port.specs.declared.fault.TrimFault.{TrimFault}
use Rattle.ahci_port.specs.declared.fault.TrimFault.TheVariants as trim
use Rattle.ahci_port.specs.declared.fault.ResetFault.{ResetFault}
use Rattle.ahci_port.specs.declared.fault.ResetFault.TheVariants as reset
use Rattle.ahci_port.specs.declared.fault.RecoverFault.{RecoverFault}
use Rattle.ahci_port.specs.declared.fault.RecoverFault.TheVariants as recover
use Rattle.ahci_port.specs.declared.fault.ReissueFault.{ReissueFault}
use Rattle.ahci_port.specs.declared.fault.ReissueFault.TheVariants as reissue
use Rattle.ahci_port.specs.declared.fault.PlainFault.{PlainFault}
use Rattle.ahci_port.specs.declared.fault.PlainFault.TheVariants as plain
use Rattle.ahci_port.specs.declared.fault.ZeroFault.{ZeroFault}
use Rattle.ahci_port.specs.declared.fault.ZeroFault.TheVariants as zero
use Rattle.ahci_port.specs.declared.fault.SubmitFault.{SubmitFault}
use Rattle.ahci_port.specs.declared.fault.SubmitFault.TheVariants as submit
use Rattle.ahci_port.specs.declared.fault.WriteFault.{WriteFault}
use Rattle.ahci_port.specs.declared.fault.WriteFault.TheVariants as write
use Rattle.ahci_regs.specs.Refusals.{of_register}
use Rattle.port_refusal.specs.declared.refusal.Refusal.{Refusal}
use Rattle.port_refusal.specs.declared.refusal.Refusal.TheVariants as refusal

-- a window is not issued
abbrev pub of_issue : IssueFault → Refusal
of_issue issue.Halted = refusal.Halted
of_issue issue.NoSuchTag = refusal.NoSuchTag
of_issue issue.SlotOwned = refusal.SlotOwned
of_issue issue.BadHeader = refusal.BadHeader
of_issue issue.BadCommand = refusal.BadCommand
of_issue issue.WrongTag = refusal.WrongTag
of_issue issue.BadList = refusal.BadList
of_issue issue.OutOfMemory = refusal.OutOfMemory

-- the device does not take a step
abbrev pub of_step : StepFault → Refusal
of_step step.Halted = refusal.Halted
of_step step.NotIssued = refusal.NotIssued
of_step step.NotAccepted = refusal.NotAccepted
of_step step.OutsideCommand = refusal.OutsideCommand
of_step step.BadTags = refusal.BadTags

-- a request is not collected
abbrev pub of_collect : CollectFault → Refusal
of_collect collect.Stranger = refusal.Stranger
of_collect collect.NotYet = refusal.NotYet

-- no port is made that goes on
abbrev pub of_resume : ResumeFault → Refusal
of_resume resume.BadSize = refusal.BadSize
of_resume resume.BadDepth = refusal.BadDepth
of_resume resume.BadFirst = refusal.BadFirst
of_resume resume.OutOfMemory = refusal.OutOfMemory

-- the journal is not handed out
abbrev pub of_trim : TrimFault → Refusal
of_trim trim.Busy = refusal.Busy
of_trim trim.Spent = refusal.Spent

-- the port is not reset
abbrev pub of_reset : ResetFault → Refusal
of_reset reset.Spent = refusal.Spent

-- the port does not recover
abbrev pub of_recover : RecoverFault → Refusal
of_recover recover.NotHalted = refusal.NotHalted
of_recover recover.OutOfMemory = refusal.OutOfMemory

-- a held command is not issued again
abbrev pub of_reissue : ReissueFault → Refusal
of_reissue reissue.Halted = refusal.Halted
of_reissue reissue.NotHeld = refusal.NotHeld

-- a command that is not queued is not sent
abbrev pub of_plain : PlainFault → Refusal
of_plain plain.Halted = refusal.Halted
of_plain plain.QueueBusy = refusal.QueueBusy
of_plain plain.OutOfMemory = refusal.OutOfMemory

abbrev pub of_zero : ZeroFault → Refusal
of_zero zero.Halted = refusal.Halted
of_zero zero.QueueBusy = refusal.QueueBusy
of_zero zero.SlotOwned = refusal.SlotOwned
of_zero zero.NoSuchSector = refusal.NoSuchSector
of_zero zero.OutOfMemory = refusal.OutOfMemory

-- a command is not submitted
abbrev pub of_submit : SubmitFault → Refusal
of_submit submit.BadCount = refusal.BadCount
of_submit submit.BadLba = refusal.BadLba
of_submit (submit.Issue fault) = of_issue fault

-- a driver's write of a register is not taken
abbrev pub of_write : WriteFault → Refusal
of_write (write.Register fault) = of_register fault
of_write write.Halted = refusal.Halted
of_write write.NotHalted = refusal.NotHalted
of_write write.NotQueued = refusal.NotQueued
of_write (write.Issue slot fault) = of_issue fault
of_write write.OutOfMemory = refusal.OutOfMemory
