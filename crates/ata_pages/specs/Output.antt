-- What is written of a page.
use Rattle.std.specs.Prelude.{◌≡◌, ℕ, Bool, if◌then◌else◌, List}
use Rattle.streams.specs.Ends.{WrittenSoFar, with_failed_write}
use Rattle.ncq_core.specs.DiskState.{DiskError}
use Rattle.ncq_core.specs.Identify.{identify_page}
use Rattle.ncq_core.specs.Log.{log_page}
use Rattle.ata_pages.specs.IdentifyText.{identify_text}
use Rattle.ata_pages.specs.LogText.{log_text}
use Rattle.ata_pages.specs.declared.page_fault.PageFault.{PageFault}
use Rattle.ata_pages.specs.declared.page_fault.PageFault.TheVariants as fault

-- a page as it is, or its text
abbrev pub output_as : Bool → List ℕ → List ℕ → List ℕ
output_as raw page text = if raw then page else text

-- the identify page of a disk of s sectors with d tags
abbrev pub identify_output : ℕ → ℕ → Bool → List ℕ
identify_output s d raw = output_as raw (identify_page s d) (identify_text (identify_page s d))

-- an error: the tag of the command that failed, the error byte and the LBA of the failing sector
abbrev pub error_at : ℕ → ℕ → ℕ → DiskError
error_at tag error lba = record { tag = tag; error = error; lba = lba }

-- page 0 of log 10h after an error
abbrev pub log_output : ℕ → ℕ → ℕ → Bool → List ℕ
log_output tag error lba raw =
    output_as raw (log_page (error_at tag error lba)) (log_text (log_page (error_at tag error lba)))

-- how the writes went where a page is not written to its end: a write or a flush failed, and the fault is that; or none was tried
abbrev pub WritesAs : WrittenSoFar → WrittenSoFar → PageFault → Type 0
WritesAs old new fault.Write = new ≡ with_failed_write old
WritesAs old new fault.OutOfMemory = new ≡ old
