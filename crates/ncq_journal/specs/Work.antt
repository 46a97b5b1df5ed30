-- What a queued command asks of the disk (ACS-3, READ FPDMA QUEUED and WRITE FPDMA QUEUED), without the code's buffers.
use Rattle.std.specs.Prelude.{ℕ, ◌/◌, ◌%◌, Bool, false, not, nat_eq, List, length}
use Rattle.ncq_journal.specs.declared.op.Op.{Op}
use Rattle.ncq_journal.specs.declared.op.Op.TheVariants as code

-- to read so many sectors from an LBA on, or to write these bytes from an LBA on
pub data Work : Type 0 where
  Read : (lba sectors : ℕ) → Work
  Write : (lba : ℕ) (bytes : List ℕ) → Work

-- what the code's Op asks for
abbrev pub work_of : {A : _} → Op A → Work
work_of (code.Read lba sectors) = Read lba sectors
work_of (code.Write lba text) = Write lba text.bytes

-- the LBA of the first sector
abbrev pub lba_of : Work → ℕ
lba_of (Read lba sectors) = lba
lba_of (Write lba bytes) = lba

-- how many whole sectors of 512 bytes are read or written
abbrev pub sectors_of : Work → ℕ
sectors_of (Read lba sectors) = sectors
sectors_of (Write lba bytes) = length bytes / 512

-- the bytes of a write aren't whole sectors of 512 bytes
abbrev pub is_ragged : Work → Bool
is_ragged (Read lba sectors) = false
is_ragged (Write lba bytes) = not (nat_eq (length bytes % 512) 0)
