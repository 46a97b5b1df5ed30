-- How a line is judged: as one of a script, by its place, or as one of a job list.
use Rattle.std.specs.Prelude.{ℕ, Bool, List, Option, None, Some, Result, Ok, Err, is_some}
use Rattle.ahci_script.specs.Jobs.{job_line_of, job_reading}
use Rattle.ahci_script.specs.Words.{after_first}
use Rattle.ahci_script.specs.declared.breach.Breach.{Breach}
use Rattle.ahci_script.specs.declared.job.Job.{Job}
use Rattle.ahci_script.specs.declared.job.Job.TheVariants.{Write, Read}
use Rattle.ahci_script.specs.declared.job.JobLine.{JobLine}
use Rattle.ahci_script.specs.declared.job.JobLine.TheVariants.{Skip, Do}
use Rattle.ahci_check.specs.Complaints.{complaint_at, complaint_in, of_excess, place_after}
use Rattle.ahci_check.specs.Limits.{count_excess}
use Rattle.ahci_check.specs.declared.complaint.Complaint.{Complaint}
use Rattle.ahci_check.specs.declared.excess.Excess.{Excess}
use Rattle.ahci_check.specs.declared.judge.Judge.{Judge}
use Rattle.ahci_check.specs.declared.judge.Judge.TheVariants.{OfScript, OfJobs}
use Rattle.ahci_check.specs.declared.rule.Rule.TheVariants.{Language}

-- the first limit that a job passes: its number of sectors, then its address
abbrev pub job_excess : List ℕ → Job → Option Excess
job_excess line (Write lba sectors fill) = count_excess (after_first line) lba sectors
job_excess line (Read lba sectors) = count_excess (after_first line) lba sectors

-- what there is to say of a job list's line that was read
abbrev pub of_job_reading : ℕ → List ℕ → Result JobLine Breach → Option Complaint
of_job_reading number line (Err breach) = Some (complaint_at number line breach.left (Language breach.fault))
of_job_reading number line (Ok Skip) = None
of_job_reading number line (Ok (Do job)) = of_excess number line (job_excess line job)

-- what there is to say of a job list's line of the given number
abbrev pub job_complaint : ℕ → List ℕ → Option Complaint
job_complaint number line = of_job_reading number line (job_reading line)

-- the line is one of the language of jobs
abbrev pub is_job_line : List ℕ → Bool
is_job_line line = is_some (job_line_of line)

-- what there is to say of the line that is judged next, and how the one after it is judged
abbrev pub complaint_by : Judge → ℕ → List ℕ → Option Complaint
complaint_by (OfScript place) number line = complaint_in place number line
complaint_by OfJobs number line = job_complaint number line

abbrev pub judge_after : Judge → List ℕ → Judge
judge_after (OfScript place) line = OfScript (place_after place line)
judge_after OfJobs line = OfJobs
