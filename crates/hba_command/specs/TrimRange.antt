-- The sectors that the data of DATA SET MANAGEMENT with TRIM name (ACS-3, "LBA Range Entry"): an entry has eight bytes, little-endian, with the first
-- LBA in bits 47:0 and how many sectors in bits 63:48. One of no sectors is passed over.
use Rattle.std.specs.Prelude.{◌≡◌, ℕ, ◌+◌, ◌*◌, ◌/◌, ◌%◌, ◌^◌, ◌≤◌, ◌==◌, if◌then◌else◌, false, List, Option, None, Some, IfSome, is_some, length, slice_set}
use Rattle.std.specs.List.{find, range_with_len}
use Rattle.sata_fis.specs.Places.{number}
use Rattle.hba_command.specs.Store.{leaves_disk}
use Rattle.hba_command.specs.declared.trim_range.TrimRange.{TrimRange}

-- the sectors of an entry, if there are any
abbrev pub range_of : ℕ → Option TrimRange
range_of entry = if entry / 2 ^ 48 == 0 then None else Some (record { lba = entry % 2 ^ 48; sectors = entry / 2 ^ 48 })

-- the sectors of entry k of the data
abbrev pub range_at : List ℕ → ℕ → Option TrimRange
range_at bytes k = range_of (number (8 * k) 8 bytes)

-- the first entry that names sectors, by its number, and these sectors
abbrev pub first_entry : List ℕ → Option ℕ
first_entry bytes = find (λ k. is_some (range_at bytes k)) (range_with_len 0 (length bytes / 8))

abbrev pub range_by : List ℕ → Option ℕ → Option TrimRange
range_by bytes (Some k) = range_at bytes k
range_by bytes None = None

abbrev pub first_range : List ℕ → Option TrimRange
first_range bytes = range_by bytes (first_entry bytes)

-- that entry is passed over from then on: its count is 0
abbrev pub passed_by : List ℕ → Option ℕ → List ℕ
passed_by bytes (Some k) = slice_set (slice_set bytes (8 * k + 6) 0) (8 * k + 7) 0
passed_by bytes None = bytes

abbrev pub first_passed : List ℕ → List ℕ
first_passed bytes = passed_by bytes (first_entry bytes)

-- the sectors are on each disk that no entry of the data leaves
abbrev pub IsOnDisk : List ℕ → Option TrimRange → Type 0
IsOnDisk bytes range = (sectors : ℕ) → leaves_disk sectors bytes ≡ false → IfSome range (λ r. r.lba + r.sectors ≤ sectors)
