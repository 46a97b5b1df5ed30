-- What a run of workers promises.
use Rattle.std.specs.Prelude.{◌≡◌, ◌≢◌, ℕ, ◌<◌, min, Bool, true, false, if◌then◌else◌, List, [], length, Option, None, Some, IsSomeAnd, Result, Err, slice_get}
use Rattle.std.specs.List.{filter_map, list_any, reduce}
use Rattle.std.specs.Option.{option_map}
use Rattle.ncq_journal.specs.Lawful.{IsProper}
use Rattle.ncq_journal.specs.Work.{Work}
use Rattle.ahci_port.specs.PortView.{PortView}
use Rattle.ahci_driver.specs.Leaving.{IsLeft}
use Rattle.ahci_driver.specs.Received.{Received}
use Rattle.ahci_driver.specs.Settled.{IsSettled, IsUnsettled}
use Rattle.ahci_driver.specs.declared.run_fault.RunFault.{RunFault}
use Rattle.ahci_driver.specs.declared.fault.SettleFault.{SettleFault}
use Rattle.ahci_driver.specs.declared.fault.SettleFault.TheVariants as settle
use Rattle.ahci_driver.specs.declared.run_fault.RunFault.TheVariants.{NotFresh, BadJob, OutOfMemory, Lost, Foreign, Unsettled}
use Rattle.ahci_driver.specs.declared.whole_run.Handed.{Handed}
use Rattle.ahci_driver.specs.declared.worker.Stop.{Stop}
use Rattle.ahci_driver.specs.declared.worker.Stop.TheVariants as stop

-- the commands of all jobs below n can be issued
abbrev pub ProperBelow : List Work → ℕ → Type 0
ProperBelow jobs n = (i : ℕ) → i < n → IsSomeAnd (slice_get jobs i) IsProper

-- the least job whose command can't be issued, or none
abbrev pub IsFirstBad : List Work → Option ℕ → Type 0
IsFirstBad jobs None = ProperBelow jobs (length jobs)
IsFirstBad jobs (Some i) = ProperBelow jobs i × IsSomeAnd (slice_get jobs i) (λ work. ¬ (IsProper work))

-- the run may begin: the port's journal is empty, and every command can be issued
abbrev pub MayRun : PortView → List Work → Type 0
MayRun port jobs = (port.past ≡ []) × IsFirstBad jobs None

-- the run of these jobs by so many workers, from a port to a port: both have the same starting image, as many slots and the
-- same first number; what was added to the journal are the workers' entries, and every slot is free again; and the run is settled
pub record HasRun (old new : PortView) (jobs : List Work) (receipts : List Received) (workers : ℕ) : Type 0 where
  pub fresh : MayRun old jobs
  pub starting_same : new.starting ≡ old.starting
  pub depth_same : new.depth ≡ old.depth
  pub first_same : new.first ≡ old.first
  pub left : IsLeft new
  pub settled : IsSettled new jobs receipts workers

-- a port has the starting image, the depth and the first number of the one that was handed in
abbrev pub IsStill : {A : _} → PortView → Handed A → Type 0
IsStill port handed = (port.starting ≡ handed.starting.items) × (port.depth ≡ handed.depth) × (port.first ≡ handed.first)

-- that port, as workers leave it
abbrev pub IsReturned : {A : _} → PortView → Handed A → Type 0
IsReturned port handed = IsStill port handed × IsLeft port

-- a fault of a run that has begun; want of memory is reported as itself
abbrev pub IsLate : RunFault → Type 0
IsLate NotFresh = ⊥
IsLate (BadJob i) = ⊥
IsLate (Unsettled settle.OutOfMemory) = ⊥
IsLate fault = Unit {0}

-- a worker has stopped for want of memory
abbrev pub is_lacking : {T : Type 0} → Result T Stop → Bool
is_lacking (Err stop.OutOfMemory) = true
is_lacking end = false

-- the job that a worker has lost
abbrev pub lost_by : {T : Type 0} → Result T Stop → Option ℕ
lost_by (Err (stop.Lost job)) = Some job
lost_by end = None

-- the least job that workers have lost
abbrev pub least_lost : {T : Type 0} → List (Result T Stop) → Option ℕ
least_lost ends = reduce min (filter_map lost_by ends)

-- why a run is given up in which workers have stopped: want of memory before a lost job, and of these the least
abbrev pub why_stopped : {T : Type 0} → List (Result T Stop) → Option RunFault
why_stopped ends =
    if list_any is_lacking ends then Some OutOfMemory
    else option_map Lost (least_lost ends)

-- why a run is given up that isn't settled
abbrev pub unsettled : SettleFault → RunFault
unsettled settle.OutOfMemory = OutOfMemory
unsettled fault = Unsettled fault

-- why a run is given up whose workers have brought these receipts: the port is another one, or not as they leave it, or what
-- `settle` says of the receipts
abbrev pub IsRefused : {A : _} → PortView → Handed A → List Work → List Received → ℕ → RunFault → Type 0
IsRefused port handed jobs receipts workers Foreign = ¬ (IsReturned port handed)
IsRefused port handed jobs receipts workers OutOfMemory = IsReturned port handed × IsUnsettled port jobs receipts workers settle.OutOfMemory
IsRefused port handed jobs receipts workers (Unsettled settle.OutOfMemory) = ⊥
IsRefused port handed jobs receipts workers (Unsettled fault) = IsReturned port handed × IsUnsettled port jobs receipts workers fault
IsRefused port handed jobs receipts workers fault = ⊥

-- a fault that names a job names one of so many
abbrev pub NamesJob : ℕ → RunFault → Type 0
NamesJob jobs (Lost i) = i < jobs
NamesJob jobs (Unsettled (settle.Wrong i)) = i < jobs
NamesJob jobs fault = Unit {0}

-- why it was given up
abbrev pub IsGivenUp : PortView → List Work → RunFault → Type 0
IsGivenUp port jobs NotFresh = port.past ≢ []
IsGivenUp port jobs (BadJob i) = (port.past ≡ []) × IsFirstBad jobs (Some i)
IsGivenUp port jobs (Unsettled settle.OutOfMemory) = ⊥
IsGivenUp port jobs fault = MayRun port jobs × NamesJob (length jobs) fault
