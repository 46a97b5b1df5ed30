-- A job list from its text to the text of its results.
use Rattle.std.specs.Prelude.{◌≡◌, ℕ, ◌*◌, ◌<◌, List, Option, length, replicate, take}
use Rattle.std.specs.Io.KnownBytes.{Appends}
use Rattle.ahci_driver.specs.Received.{Received}
use Rattle.ahci_driver.specs.Running.{HasRun}
use Rattle.ahci_driver.specs.declared.run_fault.RunFault.{RunFault}
use Rattle.ahci_driver.specs.declared.run_fault.RunFault.TheVariants as run
use Rattle.ahci_port.specs.PortView.{PortView, new_port}
use Rattle.ncq_journal.specs.Work.{Work}
use Rattle.ahci_jobs.specs.JobList.{IsListFault, IsListed}
use Rattle.ahci_jobs.specs.Forms.{written_of}
use Rattle.ahci_jobs.specs.Size.{Size}
use Rattle.ahci_jobs.specs.declared.form.Form.{Form}
use Rattle.ahci_jobs.specs.declared.jobs_fault.JobsFault.{JobsFault}
use Rattle.ahci_jobs.specs.declared.jobs_fault.JobsFault.TheVariants as fault

-- a new port over a disk of zeros
abbrev pub blank_port : Size → PortView
blank_port size = new_port (replicate (size.sectors * 512) 0) size.depth

-- the jobs of an input were done in a settled run of this size on a disk of zeros; what holds is said of what is written of
-- the run in this form
pub record HasDone (form : Form) (size : Size) (remaining_old remaining_new : Option (List ℕ)) (P : List ℕ → Type 0) : Type 0 where
  pub jobs : List Work
  pub port : PortView
  pub replies : List Received
  pub listed : IsListed remaining_old remaining_new jobs
  pub ran : HasRun (blank_port size) port jobs replies size.workers
  pub told : P (written_of form size.workers port replies)

-- the whole text is written
abbrev pub RunsJobs : Form → Size → Option (List ℕ) → Option (List ℕ) → Option (List ℕ) → Option (List ℕ) → Type 0
RunsJobs form size r s c d = HasDone form size r s (Appends c d)

-- some first part of a text is written
abbrev pub SaysPart : Option (List ℕ) → Option (List ℕ) → List ℕ → Type 0
SaysPart c d text = (n : ℕ) × Appends c d (take n text)

-- the fault, where a run that has begun was given up
abbrev pub fault_of : RunFault → JobsFault
fault_of run.OutOfMemory = fault.OutOfMemory
fault_of (run.Lost job) = fault.Lost job
fault_of given_up = fault.Unsettled

-- why it isn't. A fault of the input, a run that isn't settled, and want of memory come before any text, and a job that is lost is one
-- of the list; where the output takes no more, some first part of the text is written
abbrev pub EndsRun : Form → Size → Option (List ℕ) → Option (List ℕ) → Option (List ℕ) → Option (List ℕ) → JobsFault → Type 0
EndsRun form size r s c d (fault.Line n) = IsListFault r s (fault.Line n) × (d ≡ c)
EndsRun form size r s c d (fault.Job i) = IsListFault r s (fault.Job i) × (d ≡ c)
EndsRun form size r s c d fault.Read = IsListFault r s fault.Read × (d ≡ c)
EndsRun form size r s c d fault.Write = HasDone form size r s (SaysPart c d)
EndsRun form size r s c d fault.OutOfMemory = d ≡ c
EndsRun form size r s c d fault.Unsettled = ((jobs : List Work) × IsListed r s jobs) × (d ≡ c)
EndsRun form size r s c d (fault.Lost i) = ((jobs : List Work) × IsListed r s jobs × (i < length jobs)) × (d ≡ c)
