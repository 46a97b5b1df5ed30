-- Why a script ends before its last line.
use Rattle.std.specs.Prelude.{Bool, true, false}
use Rattle.streams.specs.Reading.{fault_or}
use Rattle.streams.specs.declared.stopped.Stopped.{Stopped}
use Rattle.ahci_replay.specs.declared.script_fault.ScriptFault.{ScriptFault}
use Rattle.ahci_replay.specs.declared.script_fault.ScriptFault.TheVariants as fault

-- the output takes no more
abbrev pub is_of_output : ScriptFault → Bool
is_of_output fault.Write = true
is_of_output _ = false

-- the fault where the reading stopped
abbrev pub fault_of : Stopped ScriptFault → ScriptFault
fault_of stopped = fault_or fault.Read fault.OutOfMemory stopped
