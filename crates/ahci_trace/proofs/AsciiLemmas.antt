-- Answers, and the digits of numbers and bytes, are ASCII.
use Rattle.std.proofs.Common.{◌≡◌, ℕ, zero, suc, ◌*◌, ◌/◌, ◌%◌, ◌<◌, ◌==◌, Bool, true, false, cond, List, [], ◌∷◌, ◌++◌, None, Some, codes, length, subst, sym, refl, arith}
use Rattle.std.specs.Prelude.{nat_lt, slice_index}
use Rattle.std.specs.Fmt.{decimal, digit_glyph, digits, digits_onto}
use Rattle.std.specs.List.{list_all}
use Rattle.std.specs.Str.{IsAscii, IsUtf8}
use Rattle.std.proofs.lemmas.Bool.{and_parts}
use Rattle.std.proofs.lemmas.Bool.Decides.{nat_tests}
use Rattle.std.proofs.lemmas.List.Concat.{flat_map-cons}
use Rattle.std.proofs.lemmas.Str.{IsAscii-append, IsUtf8-from_ascii}
use Rattle.std.proofs.lemmas.Str.Ascii.{IsAscii-cons, IsAscii-nil}
use Rattle.port_refusal.specs.Names.{name_of}
use Rattle.streams.specs.Text.{hex_of}
use Rattle.ahci_script.specs.Answers.{answer_text, entries_between, numbers_text, sector_text, sectors_text}
use Rattle.ahci_script.specs.Said.{Said, Disk, Issued, Accepted, Completed, FailedStep, Wrote, Read, Failed, Recovered, Reissued, Register, Acked, Word, Flushed, Sector, Journal, Trimmed, Refused}
use Rattle.port_refusal.specs.declared.refusal.Refusal.{Refusal}
use Rattle.port_refusal.specs.declared.refusal.Refusal.TheVariants as refusal
use Rattle.ahci_trace.specs.Json.{ascii_byte, ascii_of, hex_text}

pub ascii_is_utf8 : (text : List ℕ) → IsAscii text → IsUtf8 text
ascii_is_utf8 text h = IsUtf8-from_ascii text h

-- ---- a closed text computes to this truth value

abbrev is_ascii : List ℕ → Bool
is_ascii text = list_all (λ b. nat_lt b 128) text

below : (b : ℕ) → nat_lt b 128 ≡ true → b < 128
below b h = grind (arith, nat_tests)

word_ascii : (text : List ℕ) → is_ascii text ≡ true → IsAscii text
word_ascii [] h = IsAscii-nil
word_ascii (b ∷ more) h =
    let parts = and_parts (nat_lt b 128) (is_ascii more) h in
    IsAscii-cons b more (below b parts.0) (word_ascii more parts.1)

word_then : (word text : List ℕ) → is_ascii word ≡ true → IsAscii text → IsAscii (word ++ text)
word_then word text h q = IsAscii-append word text (word_ascii word h) q

-- ---- the text of a line

byte_below : (b : ℕ) → ascii_byte b < 128
byte_below b = grind (arith, nat_tests)

pub line_ascii : (line : List ℕ) → IsAscii (ascii_of line)
line_ascii [] = IsAscii-nil
line_ascii (b ∷ more) = IsAscii-cons (ascii_byte b) (ascii_of more) (byte_below b) (line_ascii more)

-- ---- digits

glyph_below : (d : ℕ) → d < 16 → digit_glyph false d < 128
glyph_below d h = grind (arith, nat_tests)

pub hex_ascii : (k n : ℕ) → IsAscii (hex_of k n)
hex_ascii zero n = IsAscii-nil
hex_ascii (suc k) n =
    IsAscii-append (hex_of k (n / 16)) (digit_glyph false (n % 16) ∷ []) (hex_ascii k (n / 16))
    (IsAscii-cons (digit_glyph false (n % 16)) [] (glyph_below (n % 16) (omega arith)) IsAscii-nil)

either_ascii : (b : Bool) (x y : List ℕ) → IsAscii x → IsAscii y → IsAscii (cond b x y)
either_ascii true x y p q = p
either_ascii false x y p q = q

onto_ascii : (k n : ℕ) (more : List ℕ) → IsAscii more → IsAscii (digits_onto k 10 false n more)
onto_ascii zero n more h = h
onto_ascii (suc k) n more h =
    let digit = digit_glyph false (n % 10) in
    let next = IsAscii-cons digit more (glyph_below (n % 10) (omega arith)) h in
    either_ascii (n / 10 == 0) (digit ∷ more) (digits_onto k 10 false (n / 10) (digit ∷ more)) next (onto_ascii k (n / 10) (digit ∷ more) next)

decimal_ascii : (n : ℕ) → IsAscii (decimal n)
unfolding digits
decimal_ascii n = onto_ascii 64 n [] IsAscii-nil

pub hex_text_ascii : (bytes : List ℕ) → IsAscii (hex_text bytes)
hex_text_ascii [] = IsAscii-nil
hex_text_ascii (b ∷ bytes) =
    subst IsAscii (sym (flat_map-cons (λ byte. hex_of 2 byte) b bytes)) (IsAscii-append (hex_of 2 b) (hex_text bytes) (hex_ascii 2 b) (hex_text_ascii bytes))

-- ---- answers

space : (text : List ℕ) → IsAscii text → IsAscii (32 ∷ text)
space text q = word_then (32 ∷ []) text refl q

numbers_ascii : (numbers : List ℕ) → IsAscii (numbers_text numbers)
numbers_ascii [] = IsAscii-nil
numbers_ascii (n ∷ numbers) =
    space (decimal n ++ numbers_text numbers) (IsAscii-append (decimal n) (numbers_text numbers) (decimal_ascii n) (numbers_ascii numbers))

sectors_ascii : (bytes : List ℕ) (n : ℕ) → IsAscii (sectors_text bytes n)
sectors_ascii bytes zero = IsAscii-nil
sectors_ascii bytes (suc n) =
    let byte = slice_index bytes (512 * n) in
    IsAscii-append (sectors_text bytes n) (sector_text bytes n) (sectors_ascii bytes n) (space (hex_of 2 byte) (hex_ascii 2 byte))

name_ascii : (r : Refusal) → is_ascii (name_of r) ≡ true
name_ascii refusal.BadSize = refl
name_ascii _ = refl

-- a number, and a text after it
number_then : (n : ℕ) (text : List ℕ) → IsAscii text → IsAscii (decimal n ++ text)
number_then n text q = IsAscii-append (decimal n) text (decimal_ascii n) q

pub answer_ascii : (s : Said) → IsAscii (answer_text s)
answer_ascii (Disk sectors depth None) = word_then (codes "disk ") _ refl (number_then sectors _ (space _ (decimal_ascii depth)))
answer_ascii (Disk sectors depth (Some first)) = word_then (codes "disk ") _ refl (number_then sectors _ (space _ (number_then depth _ (space _ (decimal_ascii first)))))
answer_ascii (Issued entry) = word_then (codes "issued ") _ refl (decimal_ascii entry)
answer_ascii (Accepted entry) = word_then (codes "accepted ") _ refl (decimal_ascii entry)
answer_ascii (Completed first end) = word_then (codes "completed") _ refl (numbers_ascii (entries_between first end))
answer_ascii (FailedStep entry) = word_then (codes "failed ") _ refl (decimal_ascii entry)
answer_ascii (Wrote entry) = word_then (codes "wrote ") _ refl (decimal_ascii entry)
answer_ascii (Read entry bytes) = word_then (codes "read ") _ refl (number_then entry _ (sectors_ascii bytes (length bytes / 512)))
answer_ascii (Failed entry error lba) =
    let sector = space (decimal lba) (decimal_ascii lba) in
    let fault = IsAscii-append (hex_of 2 error) (codes " " ++ decimal lba) (hex_ascii 2 error) sector in
    word_then (codes "failed ") _ refl (number_then entry (codes " " ++ (hex_of 2 error ++ (codes " " ++ decimal lba))) (space (hex_of 2 error ++ (codes " " ++ decimal lba)) fault))
answer_ascii (Recovered tag) = word_then (codes "recovered ") _ refl (decimal_ascii tag)
answer_ascii (Reissued tag) = word_then (codes "reissued ") _ refl (decimal_ascii tag)
answer_ascii (Register value) = hex_ascii 8 value
answer_ascii Acked = word_ascii (codes "acked") refl
answer_ascii (Word word value) = word_then (codes "word ") _ refl (number_then word (codes " " ++ hex_of 4 value) (space (hex_of 4 value) (hex_ascii 4 value)))
answer_ascii Flushed = word_ascii (codes "flushed") refl
answer_ascii (Sector lba byte) = word_then (codes "sector ") _ refl (number_then lba (codes " " ++ hex_of 2 byte) (space (hex_of 2 byte) (hex_ascii 2 byte)))
answer_ascii (Journal entries) = word_then (codes "journal ") _ refl (decimal_ascii entries)
answer_ascii (Trimmed entries) = word_then (codes "trimmed ") _ refl (decimal_ascii entries)
answer_ascii (Refused refusal) = word_then (codes "refused ") _ refl (word_ascii (name_of refusal) (name_ascii refusal))
