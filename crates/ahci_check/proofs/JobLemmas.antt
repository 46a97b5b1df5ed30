-- What there is to say of a job list's line: a complaint of the language comes exactly where the line is none.
use Rattle.std.proofs.Common.{◌≡◌, ℕ, ◌+◌, ◌-◌, not, List, Option, Some, None, Result, Ok, Err, IfSome, length, is_some, refl, arith}
use Rattle.std.specs.Result.{result_ok}
use Rattle.ahci_script.specs.Jobs.{job_reading}
use Rattle.ahci_script.specs.declared.breach.Breach.{Breach}
use Rattle.ahci_script.specs.declared.job.JobLine.{JobLine}
use Rattle.ahci_script.specs.declared.job.JobLine.TheVariants.{Skip, Do}
use Rattle.ahci_check.specs.Complaints.{IsColumn, ends_replay, of_excess}
use Rattle.ahci_check.specs.Judges.{is_job_line, job_complaint, job_excess, of_job_reading}
use Rattle.ahci_check.specs.declared.excess.Excess.{Excess}

pub job_agrees : (number : ℕ) (line : List ℕ) → ends_replay (job_complaint number line) ≡ not (is_job_line line)
job_agrees number line = by (job_reading line)
  where
    limits : (o : Option Excess) → ends_replay (of_excess number line o) ≡ not (is_some (Some Skip))
    limits None = refl
    limits (Some e) = refl

    by : (r : Result JobLine Breach) → ends_replay (of_job_reading number line r) ≡ not (is_some (result_ok r))
    by (Err breach) = refl
    by (Ok Skip) = refl
    by (Ok (Do job)) = limits (job_excess line job)

-- a column is one of the line's, or the one after it
pub job_column : (number : ℕ) (line : List ℕ) → IfSome (job_complaint number line) (λ c. IfSome c.column (IsColumn line))
job_column number line = by (job_reading line)
  where
    column : (left : ℕ) → IsColumn line (length line - left + 1)
    column left = (omega arith, omega arith)

    limits : (o : Option Excess) → IfSome (of_excess number line o) (λ c. IfSome c.column (IsColumn line))
    limits None = tt
    limits (Some e) = column e.left

    by : (r : Result JobLine Breach) → IfSome (of_job_reading number line r) (λ c. IfSome c.column (IsColumn line))
    by (Err breach) = column breach.left
    by (Ok Skip) = tt
    by (Ok (Do job)) = limits (job_excess line job)
