-- Why the port refuses a script's command, as the answer shows it. Want of memory is left aside: it is never shown.
use Rattle.std.specs.Prelude.{ℕ, ◌||◌, nat_eq, nat_lt, if◌then◌else◌, Option, Some, None, Result, Ok, Err}
use Rattle.std.specs.Option.{option_map, unwrap_or}
use Rattle.ahci_port.specs.Faults.{submit_refusal, step_refusal, collect_refusal, recover_refusal, reissue_refusal, plain_refusal, trim_refusal, most_first}
use Rattle.ahci_port.specs.PortView.{PortView, sectors_in}
use Rattle.ahci_port.specs.Refusals.{of_collect, of_reissue, of_step, of_trim, of_issue as port_of_issue, of_plain as port_of_plain, of_recover as port_of_recover, of_submit as port_of_submit}
use Rattle.ahci_port.specs.declared.fault.IssueFault.{IssueFault}
use Rattle.ahci_port.specs.declared.fault.SubmitFault.{SubmitFault}
use Rattle.ahci_port.specs.declared.fault.RecoverFault.{RecoverFault}
use Rattle.ahci_port.specs.declared.fault.PlainFault.{PlainFault}
use Rattle.ahci_port.specs.declared.step.DeviceStep.TheVariants as device
use Rattle.ahci_regs.specs.Reading.{read_of}
use Rattle.ahci_regs.specs.declared.fault.RegFault.{RegFault}
use Rattle.ahci_regs.specs.Refusals.{of_register}
use Rattle.ahci_script.specs.declared.line.ScriptCommand.{ScriptCommand}
use Rattle.ahci_script.specs.declared.line.ScriptCommand.TheVariants as command
use Rattle.port_refusal.specs.declared.refusal.Refusal.{Refusal}
use Rattle.port_refusal.specs.declared.refusal.Refusal.TheVariants as refused
use Rattle.ncq_core.specs.DiskState.{most_depth, most_disk_sectors}

-- a refusal as it is shown: memory that is lacking never is
abbrev pub shown : Refusal → Option Refusal
shown refused.OutOfMemory = None
shown refusal = Some refusal

-- a fault as it is shown
abbrev pub of_issue : IssueFault → Option Refusal
of_issue fault = shown (port_of_issue fault)

abbrev pub of_submit : SubmitFault → Option Refusal
of_submit fault = shown (port_of_submit fault)

abbrev pub of_recover : RecoverFault → Option Refusal
of_recover fault = shown (port_of_recover fault)

abbrev pub of_plain : PlainFault → Option Refusal
of_plain fault = shown (port_of_plain fault)

-- a refusal that may be none
abbrev pub joined : Option (Option Refusal) → Option Refusal
joined (Some r) = r
joined None = None

-- why a disk is not made; where no first number is given, it is 0
abbrev pub disk_refusal : ℕ → ℕ → Option ℕ → Option Refusal
disk_refusal sectors depth first =
    if nat_eq sectors 0 || nat_lt most_disk_sectors sectors then Some refused.BadSize
    else if nat_eq depth 0 || nat_lt most_depth depth then Some refused.BadDepth
    else if nat_lt most_first (unwrap_or first 0) then Some refused.BadFirst
    else None

-- why a command of so many sectors from an LBA on is not issued
abbrev pub issue_refusal : PortView → ℕ → ℕ → ℕ → Option Refusal
issue_refusal port tag lba sectors = joined (option_map of_submit (submit_refusal port tag lba sectors))

-- why a register is not read
abbrev pub register_refusal : Result ℕ RegFault → Option Refusal
register_refusal (Ok word) = None
register_refusal (Err fault) = Some (of_register fault)

-- why a sector is not shown
abbrev pub show_refusal : PortView → ℕ → Option Refusal
show_refusal port lba = if nat_lt lba (sectors_in port) then None else Some refused.NoSuchSector

-- why the port refuses a command, if it does; a window of any bytes is not among these
abbrev pub refusal_on : PortView → ScriptCommand → Option Refusal
refusal_on port (command.Write tag lba sectors fill) = issue_refusal port tag lba sectors
refusal_on port (command.Read tag lba sectors) = issue_refusal port tag lba sectors
refusal_on port (command.Accept tag) = option_map of_step (step_refusal port (device.Accept tag))
refusal_on port (command.Serve tags) = option_map of_step (step_refusal port (device.Serve tags))
refusal_on port (command.Fail tag error lba) = option_map of_step (step_refusal port (device.Fail tag error lba))
refusal_on port (command.Collect tag number) = option_map of_collect (collect_refusal port tag number)
refusal_on port command.Recover = joined (option_map of_recover (recover_refusal port))
refusal_on port (command.Reissue tag) = option_map of_reissue (reissue_refusal port tag)
refusal_on port (command.Identify word) = joined (option_map of_plain (plain_refusal port))
refusal_on port command.Trim = option_map of_trim (trim_refusal port)
refusal_on port command.Flush = joined (option_map of_plain (plain_refusal port))
refusal_on port (command.Reg off) = register_refusal (read_of port.registers off)
refusal_on port (command.Show lba) = show_refusal port lba
refusal_on port c = None
