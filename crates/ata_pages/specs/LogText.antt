-- Page 0 of log 10h as text (ACS-3, "NCQ Command Error log").
use Rattle.std.specs.Prelude.{ℕ, ◌/◌, ◌%◌, ◌==◌, ◌||◌, not, Bool, if◌then◌else◌, List, [], ◌∷◌, ◌++◌, find, slice_index, codes}
use Rattle.std.specs.Fmt.{decimal}
use Rattle.std.specs.Int.{from_le_bytes, w64}
use Rattle.std.specs.List.{flat_map, range_with_len}
use Rattle.std.specs.Option.{option_map_or}
use Rattle.ncq_core.specs.Identify.{is_within}
use Rattle.ata_pages.specs.Digits.{last_digits}

-- bits 7, 6 and 4 to 0 of the first byte
abbrev pub nq_of : List ℕ → ℕ
nq_of page = slice_index page 0 / 128

abbrev pub unl_of : List ℕ → ℕ
unl_of page = slice_index page 0 / 64 % 2

abbrev pub tag_of : List ℕ → ℕ
tag_of page = slice_index page 0 % 32

-- the six bytes of the LBA, whose halves are apart
abbrev pub lba_of : List ℕ → ℕ
lba_of page =
    from_le_bytes w64 (
    slice_index page 4 ∷ slice_index page 5 ∷ slice_index page 6
    ∷ slice_index page 8 ∷ slice_index page 9 ∷ slice_index page 10 ∷ 0 ∷ 0 ∷ []
    )

-- byte n is of a field
abbrev pub is_field : ℕ → Bool
is_field n = n == 0 || is_within 2 10 n || is_within 12 13 n || n == 511

-- the bytes of the fields that this model has, by what the standard calls them
abbrev pub byte_names : List (ℕ × List ℕ)
byte_names =
    (0, codes "NQ, UNL, NCQ TAG") ∷ (2, codes "Status") ∷ (3, codes "Error")
    ∷ (4, codes "LBA 7:0") ∷ (5, codes "LBA 15:8") ∷ (6, codes "LBA 23:16") ∷ (7, codes "Device")
    ∷ (8, codes "LBA 31:24") ∷ (9, codes "LBA 39:32") ∷ (10, codes "LBA 47:40")
    ∷ (12, codes "Count 7:0") ∷ (13, codes "Count 15:8") ∷ (511, codes "Data structure checksum") ∷ []

-- what the standard calls byte n; bytes of no field that this model has are without a name here
abbrev pub byte_name : ℕ → List ℕ
byte_name n = option_map_or (λ row. row.1) (find (λ row. n == row.0) byte_names) (codes "not set by this model")

-- byte n has a line: its value isn't 0, or it is of a field
abbrev pub is_told : ℕ → ℕ → Bool
is_told n value = not (value == 0) || is_field n

-- byte n with its value: its number, the value and the name
abbrev pub byte_line : ℕ → ℕ → List ℕ
byte_line n value =
    if is_told n value
    then codes "byte " ++ (last_digits 10 3 n ++ (codes "  " ++ (last_digits 16 2 value ++ (codes "  " ++ (byte_name n ++ codes "\n")))))
    else []

-- the lines of the first so many bytes
unfoldable pub byte_lines : List ℕ → ℕ → List ℕ
byte_lines page count = flat_map (λ n. byte_line n (slice_index page n)) (range_with_len 0 count)

-- the flags and the tag, the LBA, the bytes of the fields, and that there are no others
unfoldable pub log_text : List ℕ → List ℕ
log_text page =
    codes "NQ " ++ (decimal (nq_of page) ++ (codes ", UNL " ++ (decimal (unl_of page) ++ (codes ", NCQ TAG " ++ (decimal (tag_of page) ++ (codes "\n"
    ++ (codes "LBA " ++ (decimal (lba_of page) ++ (codes "\n"
    ++ (byte_lines page 512 ++ codes "all other bytes are 00\n"))))))))))
