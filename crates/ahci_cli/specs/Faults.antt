-- The faults of scripts, of checks, of job lists and of pages as those of the program.
use Rattle.std.specs.Prelude.{◌≡◌, ℕ, Bool, false, List, Option, take}
use Rattle.std.specs.Io.KnownBytes.{Appends, Keeps}
use Rattle.ahci_check.specs.declared.check_fault.CheckFault.{CheckFault}
use Rattle.ahci_check.specs.declared.check_fault.CheckFault.TheVariants as check
use Rattle.ahci_cli.specs.declared.fault.CliFault.{CliFault}
use Rattle.ahci_cli.specs.declared.fault.CliFault.TheVariants.{Line, Job, Read, Write, CheckRead, CheckWrite, Unsettled, Lost, OutOfMemory}
use Rattle.ahci_jobs.specs.declared.jobs_fault.JobsFault.{JobsFault}
use Rattle.ahci_jobs.specs.declared.jobs_fault.JobsFault.TheVariants as jobs
use Rattle.ahci_replay.specs.declared.script_fault.ScriptFault.{ScriptFault}
use Rattle.ahci_replay.specs.declared.script_fault.ScriptFault.TheVariants as script
use Rattle.ata_pages.specs.declared.page_fault.PageFault.{PageFault}
use Rattle.ata_pages.specs.declared.page_fault.PageFault.TheVariants as page

abbrev pub of_script : ScriptFault → CliFault
of_script (script.Line n) = Line n
of_script script.Read = Read
of_script script.Write = Write
of_script script.OutOfMemory = OutOfMemory

abbrev pub of_check : CheckFault → CliFault
of_check check.Read = CheckRead
of_check check.Write = CheckWrite
of_check check.OutOfMemory = OutOfMemory

abbrev pub of_jobs : JobsFault → CliFault
of_jobs (jobs.Line n) = Line n
of_jobs (jobs.Job i) = Job i
of_jobs jobs.Read = Read
of_jobs jobs.Write = Write
of_jobs jobs.Unsettled = Unsettled
of_jobs (jobs.Lost i) = Lost i
of_jobs jobs.OutOfMemory = OutOfMemory

abbrev pub of_page : PageFault → CliFault
of_page page.Write = Write
of_page page.OutOfMemory = OutOfMemory

-- how a page ends at a fault: a first part of its text is written, or nothing, where memory for its words is refused
abbrev pub EndsPage : List ℕ → Bool → Option (List ℕ) → Option (List ℕ) → PageFault → Type 0
EndsPage text raw before after page.Write = (n : ℕ) × Appends before after (take n text)
EndsPage text raw before after page.OutOfMemory = (raw ≡ false) × Keeps before after

-- the program's fault is that of another, of which this holds
abbrev pub IsFaultOf : {F : Type 0} → (F → CliFault) → (F → Type 0) → CliFault → Type 0
IsFaultOf {F} into P fault = (found : F) × (fault ≡ into found) × P found
