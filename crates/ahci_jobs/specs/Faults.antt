-- Why a job list is not done to its end, and how the reads and writes went then.
use Rattle.std.specs.Prelude.{◌≡◌}
use Rattle.streams.specs.Ends.{ReadSoFar, WrittenSoFar, with_failed_write}
use Rattle.streams.specs.Unread.{FailsReading}
use Rattle.ahci_jobs.specs.declared.jobs_fault.JobsFault.{JobsFault}
use Rattle.ahci_jobs.specs.declared.jobs_fault.JobsFault.TheVariants as fault

-- a read failed, or a byte came after the limit, and the fault is that; or none failed
abbrev pub RunReads : ReadSoFar → ReadSoFar → JobsFault → Type 0
RunReads old new fault.Read = FailsReading new
RunReads old new other = new.failed ≡ old.failed

-- a write or a flush failed, and the fault is that; or none was tried
abbrev pub RunWrites : WrittenSoFar → WrittenSoFar → JobsFault → Type 0
RunWrites old new fault.Write = new ≡ with_failed_write old
RunWrites old new other = new ≡ old
