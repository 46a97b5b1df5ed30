-- A check of a job list and its run agree: a line has a complaint exactly if no run goes on with it.
use Rattle.std.specs.Prelude.{◌≡◌, ◌↔◌, ℕ, false, List, Option, None}
use Rattle.streams.specs.Reading.{MayEnd, last_of}
use Rattle.streams.specs.Unread.{found_of, unfinished}
use Rattle.ahci_script.specs.Jobs.{job_line_of}
use Rattle.ahci_check.specs.Judges.{job_complaint}
use Rattle.ahci_check.specs.Reports.{AreLines, with_found}
use Rattle.ahci_check.specs.declared.form.Form.{Form}
use Rattle.ahci_check.specs.declared.judge.Judge.TheVariants.{OfJobs}
use Rattle.ahci_jobs.specs.JobList.{AreGood, IsGood}

-- a line has no complaint exactly if it is good
abbrev pub LinesAgree : Type 0
LinesAgree = (number : ℕ) (line : List ℕ) → (job_complaint number line ≡ None) ↔ IsGood (job_line_of line)

-- an input that a run reads to its end as a job list has no complaint
abbrev pub ListsAreQuiet : Type 0
ListsAreQuiet = (form : Form) (lines : List (List ℕ)) (rest : List ℕ)
    → AreGood lines → found_of rest ≡ unfinished → IsGood (job_line_of rest) → (with_found form OfJobs lines (last_of rest)).found ≡ false

-- and an input without a complaint is one that a run reads to its end
abbrev pub QuietAreLists : Type 0
QuietAreLists = (form : Form) (lines : List (List ℕ)) (rest : List ℕ) (remaining : Option (List ℕ))
    → AreLines lines → MayEnd remaining rest → (with_found form OfJobs lines (last_of rest)).found ≡ false
    → AreGood lines × (found_of rest ≡ unfinished) × IsGood (job_line_of rest)

pub record JobsAgree : Type 0 where
  pub line : LinesAgree
  pub quiet : ListsAreQuiet
  pub lists : QuietAreLists
