-- The sectors that WRITE UNCORRECTABLE EXT has marked (ACS-3, "WRITE UNCORRECTABLE EXT"), each by its LBA: a read of one fails until it is written.
use Rattle.std.specs.Prelude.{ℕ, ◌+◌, Bool, not, ◌&&◌, nat_le, nat_lt, min, List, ◌++◌, Option, length, filter}
use Rattle.std.specs.List.{range_with_len, reduce}

-- an LBA is one of so many sectors from a first one on
abbrev pub is_among : (first sectors lba : ℕ) → Bool
is_among first sectors lba = nat_le first lba && nat_lt lba (first + sectors)

-- the marks that are left once some sectors are written
abbrev pub without : (first sectors : ℕ) → List ℕ → List ℕ
without first sectors marks = filter (λ lba. not (is_among first sectors lba)) marks

-- the marks once some sectors are marked, of which some may have been before
abbrev pub marked_with : (first sectors : ℕ) → List ℕ → List ℕ
marked_with first sectors marks = without first sectors marks ++ range_with_len first sectors

-- the disk marks 64 sectors at most (profile)
abbrev pub has_room : (first sectors : ℕ) → List ℕ → Bool
has_room first sectors marks = nat_le (length (without first sectors marks) + sectors) 64

-- the marked sector with the least LBA, of some sectors
abbrev pub first_marked : (first sectors : ℕ) → List ℕ → Option ℕ
first_marked first sectors marks = reduce min (filter (is_among first sectors) marks)
