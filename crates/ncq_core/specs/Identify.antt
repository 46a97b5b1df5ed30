-- The page that IDENTIFY DEVICE reads, word by word (ACS-3, "IDENTIFY DEVICE").
use Rattle.std.specs.Prelude.{ℕ, ◌+◌, ◌-◌, ◌*◌, ◌/◌, ◌%◌, ◌^◌, Bool, ◌==◌, ◌&&◌, nat_le, min, if◌then◌else◌, List, [], ◌∷◌, map, slice_index_or, codes}
use Rattle.std.specs.Int.{byte_at}
use Rattle.std.specs.List.{flat_map, range_with_len}

-- the words from one number to another
abbrev pub is_within : ℕ → ℕ → ℕ → Bool
is_within first last w = nat_le first w && nat_le w last

-- a character of a text, which spaces follow
abbrev pub character : List ℕ → ℕ → ℕ
character text i = slice_index_or text i 0x20

-- word i of a text: the first of its two characters is the high byte
abbrev pub text_word : List ℕ → ℕ → ℕ
text_word text i = 256 * character text (2 * i) + character text (2 * i + 1)

-- 16 bits of a number, counted from the low ones
abbrev pub number_word : ℕ → ℕ → ℕ
number_word n i = n / 2 ^ (16 * i) % 2 ^ 16

-- how many sectors 28-bit commands reach, of so many
abbrev pub within_28_bits : ℕ → ℕ
within_28_bits s = min s 0xFFFFFFF

-- word w of the page of a disk of s sectors with d tags
abbrev pub identify_word : ℕ → ℕ → ℕ → ℕ
identify_word s d w =
    if is_within 10 19 w then text_word (codes "00000001") (w - 10)  -- serial number
    else (if is_within 23 26 w then text_word (codes "1.0") (w - 23)  -- firmware revision
    else (if is_within 27 46 w then text_word (codes "SOFTWARE NCQ DISK") (w - 27)  -- model number
    else (if w == 49 then 0x0300  -- capabilities: DMA, LBA
    else (if is_within 60 61 w then number_word (within_28_bits s) (w - 60)  -- sectors that 28-bit commands reach
    else (if w == 75 then d - 1  -- queue depth
    else (if w == 76 then 0x0106  -- Serial ATA capabilities: NCQ, Gen2, Gen1
    else (if w == 80 then 0x0400  -- major version: ACS-3
    else (if w == 83 then 0x6400  -- command sets supported: FLUSH CACHE EXT, 48-bit addresses
    else (if w == 84 then 0x4020  -- general purpose logging supported
    else (if w == 86 then 0x2400  -- command sets enabled
    else (if w == 87 then 0x4020  -- general purpose logging enabled
    else (if is_within 100 103 w then number_word s (w - 100)  -- sectors that 48-bit commands reach
    else 0))))))))))))

-- a word's bytes, the low one first
abbrev pub word_bytes : ℕ → List ℕ
word_bytes w = byte_at 0 w ∷ byte_at 1 w ∷ []

-- the 256 words
unfoldable pub identify_page : ℕ → ℕ → List ℕ
identify_page s d = flat_map word_bytes (map (identify_word s d) (range_with_len 0 256))
