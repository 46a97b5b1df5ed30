-- Why a worker ends before its last job, and which job it may name.
use Rattle.std.specs.Prelude.{◌≡◌, ℕ, ◌<◌, List, Option, None, Some, Result, IfErr}
use Rattle.std.specs.List.{All}
use Rattle.ahci_port.specs.declared.fault.IssueFault.TheVariants as issue
use Rattle.ahci_table.specs.declared.fault.BuildFault.TheVariants as build
use Rattle.ahci_driver.specs.declared.fault.SubmitFault.{SubmitFault}
use Rattle.ahci_driver.specs.declared.fault.SubmitFault.TheVariants as submit
use Rattle.ahci_driver.specs.declared.worker.Stop.{Stop}
use Rattle.ahci_driver.specs.declared.worker.Stop.TheVariants.{OutOfMemory, Lost}
use Rattle.ahci_driver.specs.declared.unfinished.Unfinished.{Unfinished}
use Rattle.ahci_driver.specs.declared.unfinished.Unfinished.TheVariants as unfinished

-- why a worker stops at a job that was not submitted; none, where it is to be tried again
abbrev pub stop_at : SubmitFault → ℕ → Option Stop
stop_at submit.NoTag job = None
stop_at (submit.Issue issue.Halted) job = None
stop_at (submit.Issue issue.SlotOwned) job = None
stop_at (submit.Issue issue.OutOfMemory) job = Some OutOfMemory
stop_at (submit.Build build.OutOfMemory) job = Some OutOfMemory
stop_at fault job = Some (Lost job)

-- why a worker stops at a job that has no answer; none, where it is to wait for it
abbrev pub stop_waiting : Unfinished → ℕ → Option Stop
stop_waiting unfinished.OutOfMemory job = Some OutOfMemory
stop_waiting unfinished.Stranger job = Some (Lost job)
stop_waiting unfinished.NotYet job = None

-- a worker that stops at a job loses no other one
abbrev pub IsStopAt : ℕ → Stop → Type 0
IsStopAt job (Lost other) = other ≡ job
IsStopAt job stop = Unit {0}

-- a job that a worker loses is one of so many
abbrev pub IsStopAmong : ℕ → Stop → Type 0
IsStopAmong jobs (Lost job) = job < jobs
IsStopAmong jobs stop = Unit {0}

-- the same of all workers
abbrev pub AreAmong : {T : Type 0} → ℕ → List (Result T Stop) → Type 0
AreAmong jobs ends = All (λ end. IfErr end (IsStopAmong jobs)) ends
