-- A job list: the commands that its lines ask for, and the lines that end it.
use Rattle.std.specs.Prelude.{◌≡◌, ℕ, ◌+◌, ◌*◌, List, [], ◌∷◌, ◌++◌, Option, Some, None, length, replicate, ◌⊎◌}
use Rattle.std.specs.Io.KnownBytes.{Consumes, IsAtEnd}
use Rattle.ahci_script.specs.Jobs.{job_line_of}
use Rattle.streams.specs.Reading.{IsNext}
use Rattle.streams.specs.Unread.{Begins, MayFail, found_of, too_long, unfinished, whole, with_feeds}
use Rattle.ahci_script.specs.declared.job.Job.{Job}
use Rattle.ahci_script.specs.declared.job.Job.TheVariants as job
use Rattle.ahci_script.specs.declared.job.JobLine.{JobLine}
use Rattle.ahci_script.specs.declared.job.JobLine.TheVariants.{Skip, Do}
use Rattle.ncq_journal.specs.Lawful.{IsProper}
use Rattle.ncq_journal.specs.Work.{Work}
use Rattle.ncq_journal.specs.Work as work
use Rattle.ahci_jobs.specs.declared.jobs_fault.JobsFault.{JobsFault}
use Rattle.ahci_jobs.specs.declared.jobs_fault.JobsFault.TheVariants as fault

-- the command that a job asks for; a write's sectors are filled with one byte
abbrev pub command_for : Job → Work
command_for (job.Write lba sectors fill) = work.Write lba (replicate (sectors * 512) fill)
command_for (job.Read lba sectors) = work.Read lba sectors

-- the commands that a line asks for: that of its job, none where it is skipped
abbrev pub commands_of : Option JobLine → List Work
commands_of (Some (Do j)) = command_for j ∷ []
commands_of line = []

-- the line is understood, and its job's command can be issued
abbrev pub IsGood : Option JobLine → Type 0
IsGood None = ⊥
IsGood (Some Skip) = Unit {0}
IsGood (Some (Do j)) = IsProper (command_for j)

-- the line is a job whose command can't be issued
abbrev pub IsBad : Option JobLine → Type 0
IsBad (Some (Do j)) = ¬ (IsProper (command_for j))
IsBad line = ⊥

-- why a line of the given number, after so many jobs, ends a job list
abbrev pub IsLineFault : Option JobLine → ℕ → ℕ → JobsFault → Type 0
IsLineFault line number jobs (fault.Line n) = (n ≡ number) × (line ≡ None)
IsLineFault line number jobs (fault.Job i) = (i ≡ jobs) × IsBad line
IsLineFault line number jobs fault.OutOfMemory = IsGood line
IsLineFault line number jobs f = ⊥

-- a list goes on: with a good line, or with more input
abbrev pub Takes : List Work → Begins → List Work → Type 0
Takes old (whole line) new = IsGood (job_line_of line) × (new ≡ old ++ commands_of (job_line_of line))
Takes old too_long new = ⊥
Takes old unfinished new = new ≡ old

-- a list does not go on
abbrev pub Refuses : List Work → ℕ → Begins → JobsFault → Type 0
Refuses old number (whole line) f = IsLineFault (job_line_of line) number (length old) f
Refuses old number too_long f = f ≡ fault.Line number
Refuses old number unfinished f = ⊥

-- lines of their own, each of them good
pub data AreGood : List (List ℕ) → Type 0 where
  no_line : AreGood []
  one_more : (first : List ℕ) (more : List (List ℕ)) → found_of (first ++ 10 ∷ []) ≡ whole first → IsGood (job_line_of first) → AreGood more → AreGood (first ∷ more)

-- the commands that lines ask for, in their order
abbrev pub asked_in : List (List ℕ) → List Work
asked_in [] = []
asked_in (first ∷ more) = commands_of (job_line_of first) ++ asked_in more

-- a whole input: lines, the last of which may lack its line feed, and the commands that they ask for
pub record IsListed (remaining_old remaining_new : Option (List ℕ)) (jobs : List Work) : Type 0 where
  pub lines : List (List ℕ)
  pub rest : List ℕ
  pub good : AreGood lines
  pub unended : found_of rest ≡ unfinished
  pub last : IsGood (job_line_of rest)
  pub asked : jobs ≡ asked_in lines ++ commands_of (job_line_of rest)
  pub consumed : Consumes remaining_old remaining_new (with_feeds lines ++ rest)
  pub end : IsAtEnd remaining_new

-- no job list goes on with these bytes: the line is too long, or not understood
abbrev pub IsFaulty : Option (List ℕ) → List ℕ → Type 0
IsFaulty remaining unread =
    (found_of unread ≡ too_long) ⊎ ((line : List ℕ) × IsNext remaining unread line × (job_line_of line ≡ None))

-- the next line is a job whose command can't be issued
abbrev pub IsBadNext : Option (List ℕ) → List ℕ → Type 0
IsBadNext remaining unread = (line : List ℕ) × IsNext remaining unread line × IsBad (job_line_of line)

-- good lines at the front of an input, and what holds after them: of the lines, of what the reader has left, and of the
-- bytes after the lines
pub record ListedFirst (remaining_old : Option (List ℕ)) (P : List (List ℕ) → Option (List ℕ) → List ℕ → Type 0) : Type 0 where
  pub lines : List (List ℕ)
  pub rest : List ℕ
  pub remaining : Option (List ℕ)
  pub good : AreGood lines
  pub consumed : Consumes remaining_old remaining (with_feeds lines ++ rest)
  pub holds : P lines remaining rest

-- why a job list is not read to its end: the first fault in the order of the input, behind which nothing more is read
abbrev pub IsListFault : Option (List ℕ) → Option (List ℕ) → JobsFault → Type 0
IsListFault r s (fault.Line n) = ListedFirst r (λ lines remaining rest. (remaining ≡ s) × ((n ≡ length lines + 1) × IsFaulty remaining rest))
IsListFault r s (fault.Job i) = ListedFirst r (λ lines remaining rest. (remaining ≡ s) × ((i ≡ length (asked_in lines)) × IsBadNext remaining rest))
IsListFault r s fault.Read =
    ListedFirst r (λ lines remaining rest. (found_of rest ≡ unfinished) × MayFail (length (with_feeds lines ++ rest)) remaining s)
IsListFault r s fault.OutOfMemory = ListedFirst r (λ _ remaining _. remaining ≡ s)
IsListFault r s f = ⊥
