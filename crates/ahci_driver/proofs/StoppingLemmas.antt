-- A worker that stops at a job loses no other one.
use Rattle.std.specs.Prelude.{ℕ, IfSome}
use Rattle.std.proofs.Common.{refl}
use Rattle.ahci_port.specs.declared.fault.IssueFault.TheVariants as issue
use Rattle.ahci_table.specs.declared.fault.BuildFault.TheVariants as build
use Rattle.ahci_driver.specs.declared.fault.SubmitFault.{SubmitFault}
use Rattle.ahci_driver.specs.declared.fault.SubmitFault.TheVariants as submit
use Rattle.ahci_driver.specs.declared.unfinished.Unfinished.{Unfinished}
use Rattle.ahci_driver.specs.declared.unfinished.Unfinished.TheVariants as unfinished
use Rattle.ahci_driver.specs.Stopping.{IsStopAt, stop_at, stop_waiting}

pub stops_here : (fault : SubmitFault) (job : ℕ) → IfSome (stop_at fault job) (IsStopAt job)
stops_here submit.NoTag job = tt
stops_here (submit.Issue issue.Halted) job = tt
stops_here (submit.Issue issue.SlotOwned) job = tt
stops_here (submit.Issue issue.OutOfMemory) job = tt
stops_here (submit.Build build.OutOfMemory) job = tt
stops_here _ job = refl

pub stops_waiting : (why : Unfinished) (job : ℕ) → IfSome (stop_waiting why job) (IsStopAt job)
stops_waiting unfinished.OutOfMemory job = tt
stops_waiting unfinished.Stranger job = refl
stops_waiting unfinished.NotYet job = tt
