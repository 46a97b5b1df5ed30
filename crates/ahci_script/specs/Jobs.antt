-- The lines of a job list: what each of them spells, or the first rule that it breaks. A job's words are those of a script.
use Rattle.std.specs.Prelude.{ℕ, ◌==◌, List, [], ◌∷◌, Option, Result, Ok, Err, codes, if◌then◌else◌}
use Rattle.std.specs.Result.{result_ok}
use Rattle.std.specs.Str.{bytes_eq}
use Rattle.ahci_script.specs.declared.breach.Breach.{Breach}
use Rattle.ahci_script.specs.declared.job.Job.{Job}
use Rattle.ahci_script.specs.declared.job.Job.TheVariants.{Write, Read}
use Rattle.ahci_script.specs.declared.job.JobLine.{JobLine}
use Rattle.ahci_script.specs.declared.job.JobLine.TheVariants.{Skip, Do}
use Rattle.ahci_script.specs.Breaches.{◌>>=◌, comment_of, seen_in}
use Rattle.ahci_script.specs.Lines.{unnamed}
use Rattle.ahci_script.specs.Number.{byte_of, decimal_of, sectors_of}
use Rattle.ahci_script.specs.Words.{Rest, ends, first_of, word_of}

-- write LBA N BB
abbrev pub write_job_of : Rest → Result Job Breach
write_job_of words = do
  l ← word_of decimal_of words
  n ← word_of sectors_of l.1
  b ← word_of byte_of n.1
  end ← ends b.1
  Ok (Write l.0 n.0 b.0)

-- read LBA N
abbrev pub read_job_of : Rest → Result Job Breach
read_job_of words = do
  l ← word_of decimal_of words
  n ← word_of sectors_of l.1
  end ← ends n.1
  Ok (Read l.0 n.0)

-- a job by its name, the first word of its line
abbrev pub named_job : List ℕ → List ℕ → Rest → Result Job Breach
named_job line name words =
    if bytes_eq name (codes "write") then write_job_of words
    else if bytes_eq name (codes "read") then read_job_of words
    else Err (unnamed line name)

abbrev pub job_of : List ℕ → Result Job Breach
job_of line = named_job line (first_of line).0 (first_of line).1

-- a line: nothing, a comment after `#`, or a job
abbrev pub job_reading : List ℕ → Result JobLine Breach
job_reading [] = Ok Skip
job_reading (b ∷ bs) =
    if b == 35 then (comment_of (b ∷ bs) >>= λ end. Ok Skip) else seen_in (b ∷ bs) (job_of (b ∷ bs) >>= λ j. Ok (Do j))

-- what a line spells, none where it breaks a rule
abbrev pub job_line_of : List ℕ → Option JobLine
job_line_of line = result_ok (job_reading line)
