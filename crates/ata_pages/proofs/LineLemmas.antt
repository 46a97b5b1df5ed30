-- Lines that are written one after another.
use Rattle.std.proofs.Common.{◌≡◌, ℕ, zero, suc, ◌+◌, ◌*◌, ◌^◌, ◌-◌, ◌<◌, true, false, List, [], ◌∷◌, ◌++◌, codes, refl, ap, sym, ◌∙◌, arith, append_assoc, append-nil, zero-add, rules}
use Rattle.std.proofs.lemmas.Bool.{ne_eqb}
use Rattle.std.proofs.lemmas.Bool.Decides.{nat_tests}
use Rattle.std.proofs.lemmas.Str.Ascii.{encode_ascii}
use Rattle.std.proofs.Output.{has_written_append, has_written_of_eq}
use Rattle.std.specs.declared.fmt.Formatter.{Formatter}
use Rattle.std.specs.Fmt.{HasWritten, IsPlainFormatter, decimal, digits, format_spec, padded_integral}
use Rattle.std.specs.List.{flat_map, range_with_len}
use Rattle.std.specs.Prelude.{encode_utf8, slice_index}
use Rattle.ata_pages.specs.IdentifyText.{characters, identify_text, shown, two_characters, word_line, word_lines, word_name, word_of}
use Rattle.ata_pages.specs.LogText.{byte_line, byte_lines, byte_name, is_told, lba_of, log_text, nq_of, tag_of, unl_of}
use Rattle.ata_pages.proofs.DigitLemmas.{four_hex_digits, three_digits, two_hex_digits}

-- the text of one number more
one_more : (text : ℕ → List ℕ) (first count : ℕ)
    → flat_map text (range_with_len first count) ++ text (first + count) ≡ flat_map text (range_with_len first (suc count))
one_more text first zero = ap text (omega arith) ∙ sym (append-nil (text first))
one_more text first (suc count) =
    let next : first + suc count ≡ first + 1 + count = omega arith in
    append_assoc (text first) (flat_map text (range_with_len (first + 1) count)) (text (first + suc count))
    ∙ ap (λ n. text first ++ (flat_map text (range_with_len (first + 1) count) ++ text n)) next
    ∙ ap (λ xs. text first ++ xs) (one_more text (first + 1) count)

-- the same, counted as a loop does
more : (text : ℕ → List ℕ) (first count : ℕ)
    → flat_map text (range_with_len first count) ++ text (first + count) ≡ flat_map text (range_with_len first (count + 1))
more text first count = one_more text first count ∙ ap (λ n. flat_map text (range_with_len first n)) {x = suc count} (omega arith)

more_from_0 : (text : ℕ → List ℕ) (count : ℕ) → flat_map text (range_with_len 0 count) ++ text count ≡ flat_map text (range_with_len 0 (count + 1))
more_from_0 text count = ap (λ n. flat_map text (range_with_len 0 count) ++ text n) (sym (zero-add count)) ∙ more text 0 count

shown_ascii : (byte : ℕ) → shown byte < 128
shown_ascii byte = grind (arith, nat_tests)

-- a character that is shown is one byte
one_byte : (c byte : ℕ) → c ≡ shown byte → encode_utf8 c ≡ shown byte ∷ []
one_byte c byte is = ap encode_utf8 is ∙ encode_ascii (shown byte) (shown_ascii byte)

more_characters : (page : List ℕ) (first count high low : ℕ) → high ≡ shown (slice_index page (2 * (first + count) + 1)) → low ≡ shown (slice_index page (2 * (first + count)))
    → characters page first count ++ (encode_utf8 high ++ encode_utf8 low) ≡ characters page first (count + 1)
unfolding characters
more_characters page first count high low h l =
    rw (one_byte high (slice_index page (2 * (first + count) + 1)) h, one_byte low (slice_index page (2 * (first + count))) l)
    (more (two_characters page) first count)

more_words : (page : List ℕ) (n value : ℕ) → value ≡ word_of page n → word_lines page n ++ word_line n value ≡ word_lines page (n + 1)
unfolding word_lines
more_words page n value is = ap (λ v. word_lines page n ++ word_line n v) is ∙ more_from_0 (λ m. word_line m (word_of page m)) n

more_bytes : (page : List ℕ) (n value : ℕ) → value ≡ slice_index page n → byte_lines page n ++ byte_line n value ≡ byte_lines page (n + 1)
unfolding byte_lines
more_bytes page n value is = ap (λ v. byte_lines page n ++ byte_line n v) is ∙ more_from_0 (λ m. byte_line m (slice_index page m)) n

-- ---- the same of a formatter, from the first one on

module _ {W : Type 0} (took : W → List ℕ → W → Type 0) where
  pub no_characters : (f : Formatter W) (page : List ℕ) (first : ℕ) → IsPlainFormatter f → HasWritten took f (characters page first 0) f
  unfolding characters
  no_characters f page first plain = search rules

  pub next_characters : (f g h : Formatter W) (page : List ℕ) (first count high low : ℕ) → high ≡ shown (slice_index page (2 * (first + count) + 1)) → low ≡ shown (slice_index page (2 * (first + count)))
      → HasWritten took f (characters page first count) g → HasWritten took g (encode_utf8 high ++ encode_utf8 low) h → HasWritten took f (characters page first (count + 1)) h
  next_characters f g h page first count high low is_high is_low so_far next =
      has_written_of_eq took _ _ _ _ (more_characters page first count high low is_high is_low) (has_written_append took _ _ _ _ _ so_far next)

  pub no_words : (f : Formatter W) (page : List ℕ) → IsPlainFormatter f → HasWritten took f (word_lines page 0) f
  unfolding word_lines
  no_words f page plain = search rules

  pub next_word : (f g h : Formatter W) (page : List ℕ) (n value : ℕ) → value ≡ word_of page n → HasWritten took f (word_lines page n) g → HasWritten took g (word_line n value) h
      → HasWritten took f (word_lines page (n + 1)) h
  next_word f g h page n value is so_far next = has_written_of_eq took _ _ _ _ (more_words page n value is) (has_written_append took _ _ _ _ _ so_far next)

  pub no_bytes : (f : Formatter W) (page : List ℕ) → IsPlainFormatter f → HasWritten took f (byte_lines page 0) f
  unfolding byte_lines
  no_bytes f page plain = search rules

  pub next_byte : (f g h : Formatter W) (page : List ℕ) (n : ℕ) → HasWritten took f (byte_lines page n) g → HasWritten took g (byte_line n (slice_index page n)) h
      → HasWritten took f (byte_lines page (n + 1)) h
  next_byte f g h page n so_far next = has_written_of_eq took _ _ _ _ (more_bytes page n (slice_index page n) refl) (has_written_append took _ _ _ _ _ so_far next)

-- ---- the lines

-- what a line's format writes: its numbers have leading zeros
abbrev pub written_line : List ℕ → ℕ → ℕ → ℕ → List ℕ → List ℕ
written_line word n width value name =
    word
    ++ (padded_integral (format_spec 32 0 4 3 (2 ^ 64 - 1)) false [] (decimal n) ++ (codes "  "
    ++ (padded_integral (format_spec 32 0 4 width (2 ^ 64 - 1)) false [] (digits 16 false value) ++ (codes "  "
    ++ (name ++ codes "\n")))))

pub word_line_is : (n value : ℕ) (name : List ℕ) → n < 256 → value < 65536 → (value ≡ 0 → ⊥) → name ≡ word_name n
    → written_line (codes "word ") n 4 value name ≡ word_line n value
word_line_is n value name low small set is =
    let number = three_digits n (omega arith) in
    let digits = four_hex_digits value small in
    rw (number, digits, is, ne_eqb value 0 set)

pub byte_line_is : (n value : ℕ) (name : List ℕ) → n < 512 → value < 256 → is_told n value ≡ true → name ≡ byte_name n
    → written_line (codes "byte ") n 2 value name ≡ byte_line n value
byte_line_is n value name low small told is =
    let number = three_digits n (omega arith) in
    let digits = two_hex_digits value small in
    rw (number, digits, is, told)

-- the lines of a log's page, one after another
pub log_text_is : (page : List ℕ) (lba : ℕ) → lba ≡ lba_of page
    → (((codes "NQ " ++ (decimal (nq_of page) ++ (codes ", UNL " ++ (decimal (unl_of page) ++ (codes ", NCQ TAG " ++ (decimal (tag_of page) ++ codes "\n"))))))
    ++ (codes "LBA " ++ (decimal lba ++ codes "\n"))) ++ byte_lines page 512) ++ codes "all other bytes are 00\n" ≡ log_text page
unfolding log_text
log_text_is page lba is =
    ap (λ n. (((codes "NQ " ++ (decimal (nq_of page) ++ (codes ", UNL " ++ (decimal (unl_of page) ++ (codes ", NCQ TAG " ++ (decimal (tag_of page) ++ codes "\n"))))))
    ++ (codes "LBA " ++ (decimal n ++ codes "\n"))) ++ byte_lines page 512) ++ codes "all other bytes are 00\n") is
    ∙ simp append_assoc

-- the lines of an identify page, one after another
pub identify_text_is : (page : List ℕ)
    → ((((codes "serial number \"" ++ (characters page 10 10 ++ codes "\"\n"))
    ++ (codes "firmware revision \"" ++ (characters page 23 4 ++ codes "\"\n")))
    ++ (codes "model number \"" ++ (characters page 27 20 ++ codes "\"\n"))) ++ word_lines page 256) ++ codes "all other words are 0000\n" ≡ identify_text page
unfolding identify_text
identify_text_is page = simp append_assoc
