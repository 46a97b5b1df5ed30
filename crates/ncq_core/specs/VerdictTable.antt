-- What the disk does with the bytes of a command, as a table: a row for each case, over what the bytes spell (Serial ATA,
-- "Register FIS - Host to Device"; ACS-3, READ FPDMA QUEUED, WRITE FPDMA QUEUED, IDENTIFY DEVICE, FLUSH CACHE EXT and
-- READ LOG EXT).
use Rattle.std.specs.Prelude.{◌≡◌, ◌≢◌, ℕ, ◌+◌, ◌<◌, ◌≤◌, true, List, Some, None, IsSome}
use Rattle.sata_fis.specs.Command.{queued_in}
use Rattle.sata_fis.specs.Fields.{H2dFields, QueuedFields}
use Rattle.sata_fis.specs.Spelling.{Spells}
use Rattle.sata_fis.specs.declared.fis.Fis.TheVariants.{H2d}
use Rattle.ncq_journal.specs.declared.plain.Plain.TheVariants.{Identify, Flush, ReadLog}
use Rattle.ncq_core.specs.DiskState.{DiskState, command_of, disk_sectors}
use Rattle.ncq_core.specs.Verdict.{aborted, accepted, not_found, passed, verdict}

-- the bytes carry this command: C is 1
abbrev pub Carries : List ℕ → H2dFields → Type 0
Carries bytes f = Spells bytes (H2d f) × (f.c ≡ true)

-- READ LOG EXT for page 0 of log 10h
abbrev pub AsksForTheErrorLog : List ℕ → Type 0
AsksForTheErrorLog bytes = (f : H2dFields) × Carries bytes f × (f.command ≡ 0x2F) × (f.lba ≡ 0x10) × (f.count ≡ 1)

-- a READ FPDMA QUEUED or a WRITE FPDMA QUEUED
abbrev pub CarriesQueued : List ℕ → QueuedFields → Type 0
CarriesQueued bytes q = (f : H2dFields) × Carries bytes f × (queued_in f ≡ Some q)

-- a command of this code that is neither
abbrev pub CarriesPlain : List ℕ → ℕ → Type 0
CarriesPlain bytes code = (f : H2dFields) × Carries bytes f × (queued_in f ≡ None) × (f.command ≡ code)

-- the tag is below the depth, and no command is outstanding at it
abbrev pub IsFreeTag : DiskState → ℕ → Type 0
IsFreeTag disk tag = (tag < disk.depth) × (command_of disk tag ≡ None)

-- no command is outstanding
abbrev pub IsIdle : DiskState → Type 0
IsIdle disk = (tag : ℕ) → command_of disk tag ≡ None

-- during an error condition: the log that reports it is let through, and everything else is refused with ABRT
pub record WhileStopped : Type 0 where
  pub log :
      (disk : DiskState) (bytes : List ℕ) → IsSome disk.error → AsksForTheErrorLog bytes
      → verdict disk bytes ≡ passed disk ReadLog
  pub other :
      (disk : DiskState) (bytes : List ℕ) → IsSome disk.error → ¬ (AsksForTheErrorLog bytes)
      → verdict disk bytes ≡ aborted disk

-- while there is none: a queued command is refused with ABRT where its tag is not free, and with IDNF where it passes the last
-- sector, which is an error; else it is accepted. IDENTIFY DEVICE (ECh) and FLUSH CACHE EXT (EAh) are let through where
-- nothing is outstanding. All else is refused with ABRT
pub record WhileRunning : Type 0 where
  pub none :
      (disk : DiskState) (bytes : List ℕ) → disk.error ≡ None → ((f : H2dFields) → ¬ (Carries bytes f))
      → verdict disk bytes ≡ aborted disk
  pub taken :
      (disk : DiskState) (bytes : List ℕ) (q : QueuedFields) → disk.error ≡ None → CarriesQueued bytes q → ¬ (IsFreeTag disk q.tag)
      → verdict disk bytes ≡ aborted disk
  pub past_end :
      (disk : DiskState) (bytes : List ℕ) (q : QueuedFields) → disk.error ≡ None → CarriesQueued bytes q → IsFreeTag disk q.tag → disk_sectors disk < q.lba + q.sectors
      → verdict disk bytes ≡ not_found disk q
  pub accepts :
      (disk : DiskState) (bytes : List ℕ) (q : QueuedFields) → disk.error ≡ None → CarriesQueued bytes q → IsFreeTag disk q.tag → q.lba + q.sectors ≤ disk_sectors disk
      → verdict disk bytes ≡ accepted disk q
  pub identify :
      (disk : DiskState) (bytes : List ℕ) → disk.error ≡ None → CarriesPlain bytes 0xEC → IsIdle disk
      → verdict disk bytes ≡ passed disk Identify
  pub flush :
      (disk : DiskState) (bytes : List ℕ) → disk.error ≡ None → CarriesPlain bytes 0xEA → IsIdle disk
      → verdict disk bytes ≡ passed disk Flush
  pub busy :
      (disk : DiskState) (bytes : List ℕ) (code : ℕ) → disk.error ≡ None → CarriesPlain bytes code → ¬ (IsIdle disk)
      → verdict disk bytes ≡ aborted disk
  pub other :
      (disk : DiskState) (bytes : List ℕ) (code : ℕ) → disk.error ≡ None → CarriesPlain bytes code → code ≢ 0xEC → code ≢ 0xEA
      → verdict disk bytes ≡ aborted disk
