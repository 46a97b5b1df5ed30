-- How the program ends at a fault.
use Rattle.std.specs.Prelude.{ℕ}
use Rattle.ahci_cli.specs.declared.fault.CliFault.{CliFault}
use Rattle.ahci_cli.specs.declared.fault.CliFault.TheVariants.{CheckRead, CheckWrite, OutOfMemory}

-- the exit status: 3 for want of memory, 4 where a check could not read or write, 1 for any other fault
abbrev pub status_of : CliFault → ℕ
status_of OutOfMemory = 3
status_of CheckRead = 4
status_of CheckWrite = 4
status_of _ = 1
