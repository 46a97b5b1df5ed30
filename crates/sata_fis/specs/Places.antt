-- The place of a field in a FIS: bytes and bits count from 0, and a number has its low byte first
-- (Serial ATA, "FIS types").
use Rattle.std.specs.Prelude.{ℕ, ◌+◌, ◌*◌, ◌^◌, Bool, ◌==◌, List, slice_index, if◌then◌else◌}
use Rattle.std.specs.Int.{bit_at}
use Rattle.byteorder.specs.Endian.{little_from}

-- byte i
abbrev pub byte : ℕ → List ℕ → ℕ
byte i bytes = slice_index bytes i

-- bit k of a number is 1
abbrev pub bit : ℕ → ℕ → Bool
bit k n = bit_at n k == 1

-- the number in the n bytes from place i on
abbrev pub number : ℕ → ℕ → List ℕ → ℕ
number i n bytes = little_from i n bytes

-- LBA 23:0 is in bytes 4 to 6 and LBA 47:24 in bytes 8 to 10
abbrev pub lba_at : List ℕ → ℕ
lba_at bytes = number 4 3 bytes + 2 ^ 24 * number 8 3 bytes

-- byte 1 of a FIS: bit 7 (C or A), bit 6 (I) and bit 5 (D)
abbrev pub flags : Bool → Bool → Bool → ℕ
flags bit_7 bit_6 bit_5 = (if bit_7 then 128 else 0) + (if bit_6 then 64 else 0) + (if bit_5 then 32 else 0)
