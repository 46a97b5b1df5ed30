-- The page that IDENTIFY DEVICE reads, as text (ACS-3, "IDENTIFY DEVICE").
use Rattle.std.specs.Prelude.{ℕ, ◌+◌, ◌*◌, ◌==◌, if◌then◌else◌, List, [], ◌∷◌, ◌++◌, slice_index, codes}
use Rattle.std.specs.List.{flat_map, range_with_len}
use Rattle.ncq_core.specs.Identify.{is_within}
use Rattle.ata_pages.specs.Digits.{last_digits}

-- word n of a page: its low byte is the first
abbrev pub word_of : List ℕ → ℕ → ℕ
word_of page n = slice_index page (2 * n) + 256 * slice_index page (2 * n + 1)

-- a byte as a character: a dot where it is none of ASCII's that can be read
abbrev pub shown : ℕ → ℕ
shown byte = if is_within 0x20 0x7E byte then byte else 0x2E

-- the two characters of word n: the first is the high byte
abbrev pub two_characters : List ℕ → ℕ → List ℕ
two_characters page n = shown (slice_index page (2 * n + 1)) ∷ shown (slice_index page (2 * n)) ∷ []

-- the text in so many words from the first on
unfoldable pub characters : List ℕ → ℕ → ℕ → List ℕ
characters page first count = flat_map (two_characters page) (range_with_len first count)

-- what the standard calls word n; words that every disk of this model leaves 0 have no name here
abbrev pub word_name : ℕ → List ℕ
word_name n =
    if is_within 10 19 n then codes "Serial number"
    else (if is_within 23 26 n then codes "Firmware revision"
    else (if is_within 27 46 n then codes "Model number"
    else (if n == 49 then codes "Capabilities"
    else (if is_within 60 61 n then codes "Total number of user addressable logical sectors for 28-bit commands"
    else (if n == 75 then codes "Queue depth"
    else (if n == 76 then codes "Serial ATA Capabilities"
    else (if n == 80 then codes "Major version number"
    else (if is_within 83 84 n then codes "Commands and feature sets supported"
    else (if is_within 86 87 n then codes "Commands and feature sets supported or enabled"
    else (if is_within 100 103 n then codes "Number of User Addressable Logical Sectors"
    else codes "not set by this model"))))))))))

-- word n with its value: its number, the value and the name; a word that isn't set has no line
abbrev pub word_line : ℕ → ℕ → List ℕ
word_line n value =
    if value == 0 then []
    else codes "word " ++ (last_digits 10 3 n ++ (codes "  " ++ (last_digits 16 4 value ++ (codes "  " ++ (word_name n ++ codes "\n")))))

-- the lines of the first so many words
unfoldable pub word_lines : List ℕ → ℕ → List ℕ
word_lines page count = flat_map (λ n. word_line n (word_of page n)) (range_with_len 0 count)

-- the three texts in quotes, the words that are set, and that there are no others
unfoldable pub identify_text : List ℕ → List ℕ
identify_text page =
    codes "serial number \"" ++ (characters page 10 10 ++ (codes "\"\n"
    ++ (codes "firmware revision \"" ++ (characters page 23 4 ++ (codes "\"\n"
    ++ (codes "model number \"" ++ (characters page 27 20 ++ (codes "\"\n"
    ++ (word_lines page 256 ++ codes "all other words are 0000\n")))))))))
