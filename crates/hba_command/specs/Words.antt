-- The words of a page, of which word w is in bytes 2w and 2w + 1, the low one first (ACS-3, "IDENTIFY DEVICE").
use Rattle.std.specs.Prelude.{ℕ, zero, suc, ◌+◌, ◌*◌, List, slice_index, slice_set, take}
use Rattle.std.specs.List.{replace_range}
use Rattle.ncq_core.specs.Identify.{word_bytes}
use Rattle.ncq_core.specs.Log.{checksum}

-- a page with a word at its place
abbrev pub with_word : ℕ → ℕ → List ℕ → List ℕ
with_word w value page = replace_range page (2 * w) (2 * w + 2) (word_bytes value)

-- a page with the same value in so many words, from one on
unfoldable pub with_words : (first value count : ℕ) → List ℕ → List ℕ
with_words first value zero page = page
with_words first value (suc n) page = with_word (first + n) value (with_words first value n page)

-- word i of a text: the first of its two characters is the high byte ("ATA String Convention")
abbrev pub text_word : List ℕ → ℕ → ℕ
text_word text i = 256 * slice_index text (2 * i) + slice_index text (2 * i + 1)

-- a page with so many words of a text, from one on
unfoldable pub with_text : (first : ℕ) → (text : List ℕ) → (words : ℕ) → List ℕ → List ℕ
with_text first text zero page = page
with_text first text (suc n) page = with_word (first + n) (text_word text n) (with_text first text n page)

-- a page whose byte 511 makes the sum of all its bytes 0 modulo 256
abbrev pub with_checksum : List ℕ → List ℕ
with_checksum page = slice_set page 511 (checksum (take 511 page))
