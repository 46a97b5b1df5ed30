-- Sectors of 512 bytes in a list of bytes (ACS-3, "Logical sector").
use Rattle.std.specs.Prelude.{◌≡◌, if◌then◌else◌, ℕ, ◌-◌, ◌*◌, ◌+◌, Bool, ◌&&◌, nat_le, nat_lt, true, false, List, [], take, drop, replicate}
use Rattle.ncq_journal.specs.Work.{Work, Read, Write, lba_of, sectors_of}

-- sector s of an image, or of the bytes of a write
abbrev pub sector_at : List ℕ → ℕ → List ℕ
sector_at bytes s = take 512 (drop (512 * s) bytes)

-- a sector of zeros
unfoldable pub zero_sector : List ℕ
zero_sector = replicate 512 0

-- sector s is one of so many from an LBA on
abbrev pub is_within : (lba sectors s : ℕ) → Bool
is_within lba sectors s = nat_le lba s && nat_lt s (lba + sectors)

-- sector s once so many sectors from an LBA on are zeros, where its bytes were these before
abbrev pub zeroed : (lba sectors s : ℕ) → List ℕ → List ℕ
zeroed lba sectors s before = if is_within lba sectors s then zero_sector else before

-- sector s is one that the command reads or writes
abbrev pub covers : Work → ℕ → Bool
covers work s = nat_le (lba_of work) s && nat_lt s (lba_of work + sectors_of work)

-- what a write has for sector s of the disk
abbrev pub written_at : Work → ℕ → List ℕ
written_at (Read lba sectors) s = []
written_at (Write lba bytes) s = sector_at bytes (s - lba)

-- the command is a write
abbrev pub is_write : Work → Bool
is_write (Read lba sectors) = false
is_write (Write lba bytes) = true

-- each sector of these bytes is in the new image from the LBA on, and every other sector stays
abbrev pub IsWrittenOver : ℕ → List ℕ → List ℕ → List ℕ → Type 0
IsWrittenOver lba bytes old new =
    (s : ℕ) → sector_at new s ≡ (if covers (Write lba bytes) s then sector_at bytes (s - lba) else sector_at old s)

-- these sectors are zeros in the new image, and every other sector stays
abbrev pub IsZeroedOver : (lba sectors : ℕ) → List ℕ → List ℕ → Type 0
IsZeroedOver lba sectors old new = (s : ℕ) → sector_at new s ≡ zeroed lba sectors s (sector_at old s)
