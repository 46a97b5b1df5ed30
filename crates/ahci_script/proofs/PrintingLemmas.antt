-- Printed words are read back: decimal and hexadecimal numbers, and words after one another.
use Rattle.std.proofs.Common.{◌≡◌, ℕ, ◌+◌, ◌*◌, ◌/◌, ◌%◌, ◌^◌, ◌<◌, ◌≤◌, ◌==◌, Bool, true, false, not, ◌&&◌, cond, ltb, nat_eq, List, [], ◌∷◌, ◌++◌, length, take, drop, refl, ap, ◌∙◌, Option, Some, None, Result, Ok, Err, ok_or, zero, suc, arith, add-one, length-append, option_map, option_and_then}
use Rattle.std.proofs.Math.Nat.{pow-suc}
use Rattle.std.proofs.Math.Seq.{take-append_seam}
use Rattle.std.proofs.lemmas.Bool.{and_parts, and_from, cond-false, cond-true, lt-leb, lt-ltb}
use Rattle.std.proofs.lemmas.Bool.Decides.{nat_tests}
use Rattle.std.proofs.lemmas.Fmt.{decimal_by_steps, decimal_nonempty, length-decimal-le}
use Rattle.std.proofs.lemmas.List.Folds.{list_all-append}
use Rattle.std.proofs.lemmas.List.Sums.{fold_push}
use Rattle.std.specs.Char.{is_ascii_digit}
use Rattle.std.specs.Fmt.{decimal, digit_glyph}
use Rattle.std.specs.List.{All, list_all, position_or_len}
use Rattle.std.specs.Option.{is_some, unwrap_or}
use Rattle.streams.specs.Text.{hex_of}
use Rattle.ahci_script.specs.Breaches.{◌>>=◌}
use Rattle.ahci_script.specs.HexBytes.{header_of, hex_bytes_of, hex_digit_value, pairs_of, some_bytes_of, some_header_of}
use Rattle.ahci_script.specs.Number.{below, byte_of, decimal_below, decimal_of, decimal_value, digits_of, hex_digit_of, hexadecimal_of, hexadecimal_value, is_decimal}
use Rattle.ahci_script.specs.Number.{is_hex_digit, not_hexadecimal, page_word_of, sectors_limit, sectors_of, tag_of, two_digits_of, with_digit, with_hex_digit}
use Rattle.ahci_script.specs.Printing.{before, hex_bytes}
use Rattle.ahci_script.specs.Words.{Rest, cut_of, first_at, next_at, next_of, placed, word_of}
use Rattle.ahci_script.specs.declared.fault.Fault.{Fault}
use Rattle.ahci_script.specs.declared.fault.Fault.TheVariants.{LargeCount, LargeTag, LargeWord, LongNumber, LongRegister, NotDecimal, NotSixtyFourDigits, NotTwoDigits, OddDigits, WideNumber}

-- no space is among these bytes
abbrev pub is_word : List ℕ → Bool
is_word bytes = list_all (λ b. not (b == 32)) bytes

-- the first space after a word
space_after : (word others : List ℕ) → is_word word ≡ true → position_or_len (λ b. b == 32) (before word others) ≡ length word
space_after [] others h = refl
space_after (b ∷ bs) others h =
    let parts = and_parts (not (b == 32)) (is_word bs) h in
    cond-true (not (b == 32)) (1 + position_or_len (λ b. b == 32) (before bs others)) 0 parts.0 ∙ ap (λ n. 1 + n) (space_after bs others parts.1) ∙ (omega arith)

drop_word : (word others : List ℕ) → drop (suc (length word)) (before word others) ≡ others
drop_word [] others = refl
drop_word (b ∷ bs) others = drop_word bs others

-- a word is cut off at the space after it
pub cut-before : (word others : List ℕ) → is_word word ≡ true → cut_of (before word others) ≡ Some (word, others)
cut-before word others h =
    let at = space_after word others h in
    let within : length word < length (before word others) = omega (arith, length-append word (32 ∷ others)) in
    let first = position_or_len (λ b. b == 32) (before word others) in
    let found : cond (ltb first (length (before word others))) (Some first) None ≡ Some (length word) =
    ap (λ n. cond (ltb n (length (before word others))) (Some n) None) at ∙ cond-true _ (Some (length word)) None (lt-ltb (length word) (length (before word others)) within) in
    ap (λ o. option_map (λ i. (take i (before word others), drop (i + 1) (before word others))) o) found
    ∙ ap (λ l. Some (l, drop (length word + 1) (before word others))) (take-append_seam word (32 ∷ others))
    ∙ ap (λ n. Some (word, drop n (before word others))) (add-one (length word))
    ∙ ap (λ l. Some (word, l)) (drop_word word others)

-- no space is in a word
no_space : (word : List ℕ) → is_word word ≡ true → position_or_len (λ b. b == 32) word ≡ length word
no_space [] h = refl
no_space (b ∷ bs) h =
    let parts = and_parts (not (b == 32)) (is_word bs) h in
    cond-true (not (b == 32)) (1 + position_or_len (λ b. b == 32) bs) 0 parts.0 ∙ ap (λ n. 1 + n) (no_space bs parts.1) ∙ (omega arith)

-- so it is not cut
pub cut-word : (word : List ℕ) → is_word word ≡ true → cut_of word ≡ None
cut-word word h =
    let at = position_or_len (λ b. b == 32) word in
    let found : cond (ltb at (length word)) (Some at) None ≡ None =
    ap (λ n. cond (ltb n (length word)) (Some n) None) (no_space word h)
    ∙ cond-false _ (Some (length word)) None (lt-leb (suc (length word)) (length word) (omega arith)) in
    ap (λ o. option_map (λ i. (take i word, drop (i + 1) word)) o) found

-- what holds of the digits of a number
pub record Digits (n : ℕ) (ds : List ℕ) : Type 0 where
  pub value : decimal_value ds ≡ n
  pub all : list_all is_ascii_digit ds ≡ true
  pub word : is_word ds ≡ true

one_digit : (n : ℕ) → n < 10 → Digits n ((48 + n) ∷ [])
one_digit n h = record { value = omega arith; all = grind (arith, nat_tests); word = grind (arith, nat_tests) }

digit_more : (n : ℕ) (ds : List ℕ) → 10 ≤ n → Digits (n / 10) ds → Digits n (ds ++ (48 + n % 10) ∷ [])
digit_more n ds h d =
    let one = one_digit (n % 10) (omega arith) in
    record {
      value = fold_push with_digit 0 ds (48 + n % 10) ∙ ap (λ v. with_digit v (48 + n % 10)) d.value ∙ (omega arith);
      all = list_all-append is_ascii_digit ds ((48 + n % 10) ∷ []) ∙ and_from (list_all is_ascii_digit ds) _ d.all one.all;
      word = list_all-append (λ b. not (b == 32)) ds ((48 + n % 10) ∷ []) ∙ and_from (is_word ds) _ d.word one.word;
    }

pub digits : (n : ℕ) → n < 2 ^ 64 → Digits n (decimal n)
digits n h = decimal_by_steps Digits one_digit digit_more n h

below-back : (limit n : ℕ) → n < limit → below limit n ≡ Some n
below-back limit n h = cond-true (ltb n limit) (Some n) None (lt-ltb n limit h)

-- a word that is not empty, has no space in it, and spells a value
pub record Spells {T : Type 0} (spelled : List ℕ → Result T Fault) (word : List ℕ) (value : T) : Type 0 where
  pub whole : is_word word ≡ true
  pub some : 0 < length word
  pub is : spelled word ≡ Ok value

-- a decimal number is read back
decimal-back : (n : ℕ) → n < 2 ^ 64 → decimal_of (decimal n) ≡ Ok n
decimal-back n h =
    let d = digits n h in
    let some : 0 < length (decimal n) = decimal_nonempty n h in
    let few : length (decimal n) ≤ 20 = length-decimal-le 20 n (omega arith) (omega arith) h in
    let is : is_decimal (decimal n) ≡ true =
    and_from (ltb 0 (length (decimal n))) (list_all is_ascii_digit (decimal n)) (lt-ltb 0 (length (decimal n)) some) d.all in
    cond-true (is_decimal (decimal n)) _ (Err NotDecimal) is
    ∙ cond-false (ltb 20 (length (decimal n))) (Err LongNumber) _ (lt-leb 21 (length (decimal n)) (omega (arith, few)))
    ∙ ap (λ v. ok_or (below (2 ^ 64) v) WideNumber) d.value ∙ ap (λ o. ok_or o WideNumber) (below-back (2 ^ 64) n h)

pub number-spelled : (n : ℕ) → n < 2 ^ 64 → Spells decimal_of (decimal n) n
number-spelled n h = record { whole = (digits n h).word; some = decimal_nonempty n h; is = decimal-back n h }

-- and so is one below a limit
below-spelled : (limit : ℕ) (large : ℕ → Fault) (n : ℕ) → limit ≤ sectors_limit → n < limit → Spells (decimal_below limit large) (decimal n) n
below-spelled limit large n few h =
    let number = number-spelled n (omega arith) in
    record {
      whole = number.whole;
      some = number.some;
      is = ap (λ r. r >>= λ m. cond (ltb m limit) (Ok m) (Err (large m))) number.is ∙ cond-true (ltb n limit) (Ok n) (Err (large n)) (lt-ltb n limit h);
    }

pub tag-spelled : (n : ℕ) → n < 32 → Spells tag_of (decimal n) n
tag-spelled n h = below-spelled 32 LargeTag n (omega arith) h

pub sectors-spelled : (n : ℕ) → n < sectors_limit → Spells sectors_of (decimal n) n
sectors-spelled n h = below-spelled sectors_limit LargeCount n (omega arith) h

pub page_word-spelled : (n : ℕ) → n < 256 → Spells page_word_of (decimal n) n
page_word-spelled n h = below-spelled 256 LargeWord n (omega arith) h

-- a hexadecimal digit is read back, and is no space
glyph-back : (d : ℕ) → d < 16 → hex_digit_of (digit_glyph false d) ≡ Some d
glyph-back d h = grind (arith, nat_tests)

glyph-word : (d : ℕ) → d < 16 → not (digit_glyph false d == 32) ≡ true
glyph-word d h = grind (arith, nat_tests)

with_digit-back : (v d : ℕ) → d < 16 → with_hex_digit (Some v) (digit_glyph false d) ≡ Some (16 * v + d)
with_digit-back v d h = ap (option_and_then (λ x. Some (16 * v + x))) (glyph-back d h)

-- so many hexadecimal digits have the value of a number that has no more
hex-back : (k n : ℕ) → n < 16 ^ k → hexadecimal_value (hex_of k n) ≡ Some n
hex-back zero n h = ap Some (let none : n < 1 = h in let e : 0 ≡ n = omega arith in e)
hex-back (suc k) n h =
    let fewer : n / 16 < 16 ^ k = high k n h in
    fold_push with_hex_digit (Some 0) (hex_of k (n / 16)) (digit_glyph false (n % 16))
    ∙ ap (λ v. with_hex_digit v (digit_glyph false (n % 16))) (hex-back k (n / 16) fewer)
    ∙ with_digit-back (n / 16) (n % 16) (omega arith) ∙ ap Some (let e : 16 * (n / 16) + n % 16 ≡ n = omega arith in e)
  where
    high : (k n : ℕ) → n < 16 ^ suc k → n / 16 < 16 ^ k
    high k n h = let p : 16 ^ suc k ≡ 16 ^ k * 16 = pow-suc 16 k in omega arith

length-hex_of : (k n : ℕ) → length (hex_of k n) ≡ k
length-hex_of zero n = refl
length-hex_of (suc k) n = length-append (hex_of k (n / 16)) (digit_glyph false (n % 16) ∷ []) ∙ ap (λ m. m + 1) (length-hex_of k (n / 16)) ∙ (omega arith)

hex-word : (k n : ℕ) → is_word (hex_of k n) ≡ true
hex-word zero n = refl
hex-word (suc k) n =
    list_all-append (λ b. not (b == 32)) (hex_of k (n / 16)) (digit_glyph false (n % 16) ∷ [])
    ∙ and_from (is_word (hex_of k (n / 16))) _ (hex-word k (n / 16)) (and_from (not (digit_glyph false (n % 16) == 32)) true (glyph-word (n % 16) (omega arith)) refl)

-- eight hexadecimal digits are read back
pub register-spelled : (n : ℕ) → n < 2 ^ 32 → Spells hexadecimal_of (hex_of 8 n) n
register-spelled n h = record {
  whole = hex-word 8 n;
  some = omega (arith, length-hex_of 8 n);
  is = ap (λ o. ok_or o (not_hexadecimal (hex_of 8 n) LongRegister)) (let e : digits_of (hex_of 8 n) ≡ Some n = hex-back 8 n (omega arith) in e);
}

-- and so are the two of a byte
two_digits-back : (n : ℕ) → n < 256 → two_digits_of (hex_of 2 n) ≡ Some n
two_digits-back n h =
    let high = glyph-back (n / 16 % 16) (omega arith) in
    let low = glyph-back (n % 16) (omega arith) in
    ap (option_and_then (λ x. option_and_then (λ l. Some (16 * x + l)) (hex_digit_of (digit_glyph false (n % 16))))) high
    ∙ ap (option_and_then (λ l. Some (16 * (n / 16 % 16) + l))) low ∙ ap Some (let e : 16 * (n / 16 % 16) + n % 16 ≡ n = omega arith in e)

pub byte-spelled : (n : ℕ) → n < 256 → Spells byte_of (hex_of 2 n) n
byte-spelled n h = record {
  whole = hex-word 2 n;
  some = omega (arith, length-hex_of 2 n);
  is = ap (λ o. ok_or o (not_hexadecimal (hex_of 2 n) NotTwoDigits)) (two_digits-back n h);
}

-- bytes are read back: so many that there are two digits for each
bytes-digits : (bytes : List ℕ) → list_all is_hex_digit (hex_bytes bytes) ≡ true
bytes-digits [] = refl
bytes-digits (b ∷ bytes) =
    and_from (is_hex_digit (digit_glyph false (b / 16 % 16))) _ (ap is_some (glyph-back (b / 16 % 16) (omega arith)))
    (and_from (is_hex_digit (digit_glyph false (b % 16))) _ (ap is_some (glyph-back (b % 16) (omega arith))) (bytes-digits bytes))

length-bytes : (bytes : List ℕ) → length (hex_bytes bytes) ≡ 2 * length bytes
length-bytes [] = refl
length-bytes (b ∷ bytes) = let rest = length-bytes bytes in omega (arith, rest)

digit-back : (d : ℕ) → d < 16 → hex_digit_value (digit_glyph false d) ≡ d
digit-back d h = ap (λ o. unwrap_or o 0) (glyph-back d h)

pairs-back : (bytes : List ℕ) → All (λ b. b < 256) bytes → pairs_of (hex_bytes bytes) ≡ bytes
pairs-back [] all = refl
pairs-back (b ∷ bytes) all =
    let small : b < 256 = all 0 0 (omega arith) in
    let high = digit-back (b / 16 % 16) (omega arith) in
    let low = digit-back (b % 16) (omega arith) in
    let first : 16 * hex_digit_value (digit_glyph false (b / 16 % 16)) + hex_digit_value (digit_glyph false (b % 16)) ≡ b = omega (arith, high, low, small) in
    ap (λ x. x ∷ pairs_of (hex_bytes bytes)) first ∙ ap (λ xs. b ∷ xs) (pairs-back bytes (λ k d h. all (suc k) d (omega arith)))

some_bytes-back : (bytes : List ℕ) → All (λ b. b < 256) bytes → 0 < length bytes → some_bytes_of (hex_bytes bytes) ≡ Some bytes
some_bytes-back bytes all some =
    let word = hex_bytes bytes in
    let len = length-bytes bytes in
    let even : length word % 2 ≡ 0 = omega (arith, len) in
    let is : (ltb 0 (length word) && nat_eq (length word % 2) 0 && list_all is_hex_digit word) ≡ true =
    and_from (ltb 0 (length word) && nat_eq (length word % 2) 0) (list_all is_hex_digit word)
    (and_from (ltb 0 (length word)) (nat_eq (length word % 2) 0) (lt-ltb 0 (length word) (omega (arith, len))) (ap (λ n. nat_eq n 0) even)) (bytes-digits bytes) in
    cond-true _ (Some (pairs_of word)) None is ∙ ap Some (pairs-back bytes all)

-- and there is no space in them
bytes-word : (bytes : List ℕ) → is_word (hex_bytes bytes) ≡ true
bytes-word [] = refl
bytes-word (b ∷ bytes) = list_all-append (λ x. not (x == 32)) (hex_of 2 b) (hex_bytes bytes) ∙ and_from (is_word (hex_of 2 b)) _ (hex-word 2 b) (bytes-word bytes)

pub bytes-spelled : (bytes : List ℕ) → All (λ b. b < 256) bytes → 0 < length bytes → Spells hex_bytes_of (hex_bytes bytes) bytes
bytes-spelled bytes all some = record {
  whole = bytes-word bytes;
  some = omega (arith, length-bytes bytes, some);
  is = ap (λ o. ok_or o (not_hexadecimal (hex_bytes bytes) OddDigits)) (some_bytes-back bytes all some);
}

pub header-spelled : (header : List ℕ) → All (λ b. b < 256) header → length header ≡ 32 → Spells header_of (hex_bytes header) header
header-spelled header all size =
    let back : some_header_of (hex_bytes header) ≡ Some header =
    ap (option_and_then (λ bytes. cond (nat_eq (length bytes) 32) (Some bytes) None)) (some_bytes-back header all (omega (arith, size)))
    ∙ cond-true (nat_eq (length header) 32) (Some header) None (ap (λ n. nat_eq n 32) size) in
    record {
      whole = bytes-word header;
      some = omega (arith, length-bytes header, size);
      is = ap (λ o. ok_or o (not_hexadecimal (hex_bytes header) NotSixtyFourDigits)) back;
    }

-- a word is read off a line, where it has words after it, and where it is the last
read_off : {T : Type 0} (spelled : List ℕ → Result T Fault) (word : List ℕ) (value : T) (text : List ℕ) (cut : Option (List ℕ × List ℕ)) (rest : Rest) → Spells spelled word value
    → cut_of text ≡ cut → first_at cut text ≡ (word, rest) → word_of spelled (Some text) ≡ Ok (value, rest)
unfolding word_of next_of
read_off spelled [] value text cut rest s is first = absurd (omega (arith, s.some))
read_off spelled (b ∷ bs) value text cut rest s is first =
    ap (λ c. next_at text (first_at c text).0 (first_at c text).1 >>= λ w. placed w.0 w.2 (spelled w.1)) is
    ∙ ap (λ f. next_at text f.0 f.1 >>= λ w. placed w.0 w.2 (spelled w.1)) first ∙ ap (placed text rest) s.is

pub word-before : {T : Type 0} {spelled : List ℕ → Result T Fault} {word : List ℕ} {value : T} (others : List ℕ) → Spells spelled word value
    → word_of spelled (Some (before word others)) ≡ Ok (value, Some others)
word-before {spelled} {word} {value} others s =
    read_off spelled word value (before word others) (Some (word, others)) (Some others) s (cut-before word others s.whole) refl

pub word-last : {T : Type 0} {spelled : List ℕ → Result T Fault} {word : List ℕ} {value : T} → Spells spelled word value → word_of spelled (Some word) ≡ Ok (value, None)
word-last {spelled} {word} {value} s = read_off spelled word value word None None s (cut-word word s.whole) refl
