-- Why bytes are no FIS.
use Rattle.std.specs.Prelude.{◌≡◌, ◌<◌, ℕ, ◌%◌, Bool, false, true, ◌==◌, ◌||◌, ◌&&◌, nat_le, List, [], length, Result, Ok, Err, if◌then◌else◌}
use Rattle.sata_fis.specs.declared.fis.Fis.{Fis}
use Rattle.sata_fis.specs.declared.fault.FisFault.{FisFault}
use Rattle.sata_fis.specs.declared.fault.FisFault.TheVariants.{Empty, UnknownType, WrongLength}
use Rattle.sata_fis.specs.Places.{byte}
use Rattle.sata_fis.specs.Spelling.{Spells}

-- the seven types
abbrev pub is_type : ℕ → Bool
is_type t = t == 0x27 || t == 0x34 || t == 0x39 || t == 0x41 || t == 0x46 || t == 0x5F || t == 0xA1

-- a FIS of the type may have this many bytes
abbrev pub is_length : ℕ → ℕ → Bool
is_length type len =
    if type == 0x39 then len == 4
    else (if type == 0xA1 then len == 8
    else (if type == 0x41 then len == 28
    else (if type == 0x46 then nat_le 8 len && nat_le len 8196 && len % 4 == 0
    else len == 20)))

-- the first of the three faults that the bytes have
abbrev pub IsFault : List ℕ → FisFault → Type 0
IsFault bytes Empty = bytes ≡ []
IsFault bytes (UnknownType t) = (0 < length bytes) × (t ≡ byte 0 bytes) × (is_type t ≡ false)
IsFault bytes (WrongLength n) =
    (0 < length bytes) × (n ≡ length bytes) × (is_type (byte 0 bytes) ≡ true) × (is_length (byte 0 bytes) n ≡ false)

-- what reading the bytes answers
abbrev pub Decodes : List ℕ → Result Fis FisFault → Type 0
Decodes bytes (Ok f) = Spells bytes f
Decodes bytes (Err e) = IsFault bytes e
