-- Why a script was not judged to its end.
use Rattle.std.specs.Prelude.{◌≡◌, Bool, true, false, ⊤}
use Rattle.streams.specs.Ends.{ReadSoFar, WrittenSoFar, with_failed_write, with_flush}
use Rattle.streams.specs.Unread.{FailsReading}
use Rattle.streams.specs.Reading.{fault_or}
use Rattle.streams.specs.declared.stopped.Stopped.{Stopped}
use Rattle.ahci_check.specs.declared.check_fault.CheckFault.{CheckFault}
use Rattle.ahci_check.specs.declared.check_fault.CheckFault.TheVariants as fault

-- the output takes no more
abbrev pub is_of_output : CheckFault → Bool
is_of_output fault.Write = true
is_of_output _ = false

-- the fault where the reading stopped
abbrev pub fault_of : Stopped CheckFault → CheckFault
fault_of stopped = fault_or fault.Read fault.OutOfMemory stopped

-- how the writes went then: one failed, and the fault is that; or none did, and after a failed read what was written is flushed
abbrev pub WritesTo : WrittenSoFar → WrittenSoFar → CheckFault → Type 0
WritesTo old new fault.Write = new ≡ with_failed_write old
WritesTo old new fault.Read = new ≡ with_flush old
WritesTo old new fault.OutOfMemory = new.failed ≡ old.failed

-- and the reads: one failed, or a byte came after the limit, and the fault is that; or none failed. A failed write is reported before
-- a failed read
abbrev pub ReadsTo : ReadSoFar → ReadSoFar → CheckFault → Type 0
ReadsTo old new fault.Read = FailsReading new
ReadsTo old new fault.Write = ⊤
ReadsTo old new fault.OutOfMemory = new.failed ≡ old.failed
