-- Lemmas about the run of a job list.
use Rattle.std.proofs.Common.{◌≡◌, zero, suc, List, [], ◌∷◌, ◌++◌, Option, None, Some, length, sym, subst, refl, arith}
use Rattle.ahci_driver.specs.Running.{IsGivenUp, ProperBelow}
use Rattle.ahci_driver.specs.declared.run_fault.RunFault.{RunFault}
use Rattle.ahci_driver.specs.declared.run_fault.RunFault.TheVariants as of_run
use Rattle.ahci_port.specs.PortView.{PortView}
use Rattle.ahci_script.specs.Jobs.{job_line_of}
use Rattle.ahci_jobs.specs.declared.jobs_fault.JobsFault.{JobsFault}
use Rattle.ahci_jobs.specs.declared.jobs_fault.JobsFault.TheVariants.{Write, Unsettled, Lost, OutOfMemory}
use Rattle.ahci_script.specs.declared.job.JobLine.{JobLine}
use Rattle.ahci_script.specs.declared.job.JobLine.TheVariants.{Skip, Do}
use Rattle.ncq_journal.specs.Lawful.{IsProper}
use Rattle.ncq_journal.specs.Work.{Work}
use Rattle.streams.proofs.FoundLemmas.{Bytes}
use Rattle.ahci_jobs.proofs.ListLemmas.{Known}
use Rattle.streams.specs.Ends.{ReadSoFar, WrittenSoFar}
use Rattle.ahci_jobs.specs.Faults.{RunReads, RunWrites}
use Rattle.ahci_jobs.specs.JobList.{AreGood, IsGood, IsListFault, IsListed, asked_in, command_for, commands_of, no_line, one_more}
use Rattle.ahci_jobs.specs.Size.{Size}
use Rattle.ahci_jobs.specs.RunJobs.{EndsRun, fault_of}
use Rattle.ahci_jobs.specs.declared.form.Form.{Form}

-- all of these commands can be issued
abbrev pub AllProper : List Work → Type 0
AllProper jobs = ProperBelow jobs (length jobs)

proper_none : AllProper []
proper_none i low = absurd (omega arith)

proper_cons : (work : Work) (more : List Work) → IsProper work → AllProper more → AllProper (work ∷ more)
proper_cons work more h all zero low = h
proper_cons work more h all (suc i) low = all i (omega arith)

proper_append : (xs ys : List Work) → AllProper xs → AllProper ys → AllProper (xs ++ ys)
proper_append [] ys p q = q
proper_append (x ∷ xs) ys p q = proper_cons x (xs ++ ys) (p 0 (omega arith)) (proper_append xs ys (λ i low. p (suc i) (omega arith)) q)

proper_of : (line : Option JobLine) → IsGood line → AllProper (commands_of line)
proper_of None h = absurd h
proper_of (Some Skip) h = proper_none
proper_of (Some (Do j)) h = proper_cons (command_for j) [] h proper_none

proper_in : (lines : List Bytes) → AreGood lines → AllProper (asked_in lines)
proper_in _ no_line = proper_none
proper_in _ (one_more first more own good others) = proper_append (commands_of (job_line_of first)) (asked_in more) (proper_of (job_line_of first) good) (proper_in more others)

-- a job list has jobs whose commands can be issued
pub listed_proper : (r s : Known) (jobs : List Work) → IsListed r s jobs → AllProper jobs
listed_proper r s jobs h =
    subst AllProper (sym h.asked) (proper_append (asked_in h.lines) (commands_of (job_line_of h.rest)) (proper_in h.lines h.good) (proper_of (job_line_of h.rest) h.last))

-- the list ended early
pub ends_listing : (f : JobsFault) (form : Form) (size : Size) (r s c : Known) → IsListFault r s f → EndsRun form size r s c c f
ends_listing OutOfMemory form size r s c h = refl
ends_listing Write form size r s c h = absurd h
ends_listing Unsettled form size r s c h = absurd h
ends_listing (Lost i) form size r s c h = absurd h
ends_listing _ form size r s c h = (h, refl)

-- the run was given up
pub ends_running : (f : RunFault) (port : PortView) (form : Form) (size : Size) (r s c : Known) (jobs : List Work) → IsListed r s jobs → IsGivenUp port jobs f
    → EndsRun form size r s c c (fault_of f)
ends_running of_run.OutOfMemory port form size r s c jobs listed h = refl
ends_running (of_run.Lost i) port form size r s c jobs listed h = ((jobs, listed, h.1), refl)
ends_running _ port form size r s c jobs listed h = ((jobs, listed), refl)

-- ---- how the reads and writes went

-- where the list ended early
pub writes_listing : (f : JobsFault) (r s : Known) (w : WrittenSoFar) → IsListFault r s f → RunWrites w w f
writes_listing Write r s w h = absurd h
writes_listing _ r s w h = refl

-- where the run was given up
pub reads_running : (f : RunFault) (old new : ReadSoFar) → new.failed ≡ old.failed → RunReads old new (fault_of f)
reads_running of_run.NotFresh old new told = told
reads_running _ old new told = told

pub writes_running : (f : RunFault) (w : WrittenSoFar) → RunWrites w w (fault_of f)
writes_running of_run.NotFresh w = refl
writes_running _ w = refl
