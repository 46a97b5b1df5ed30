-- Short numbers are read off a text with the word that they are.
use Rattle.std.proofs.Common.{◌≡◌, ℕ, ◌+◌, ◌*◌, ◌-◌, ◌^◌, ◌<◌, ◌≤◌, ◌==◌, true, not, cond, ltb, List, [], ◌∷◌, ◌++◌, length, get_or, take, drop, refl, sym, ap, ◌∙◌, ◌&&◌, leb, Some, None, Result, Ok, Err, ok_or, option_and_then, add-one, arith}
use Rattle.std.proofs.Math.Nat.{pow-le-pow_right, pow-suc}
use Rattle.std.proofs.lemmas.Bool.{and_from, cond-false, cond-true, lt-leb, lt-ltb}
use Rattle.std.proofs.lemmas.Bool.Decides.{nat_tests}
use Rattle.std.proofs.lemmas.List.{drop_more, length-take-le, take-append-drop, take_all, take_more}
use Rattle.std.proofs.lemmas.List.Folds.{list_all-append}
use Rattle.std.proofs.lemmas.List.Sums.{fold_push}
use Rattle.std.specs.Char.{is_ascii_digit}
use Rattle.std.specs.List.{list_all}
use Rattle.ahci_script.specs.Breaches.{◌>>=◌}
use Rattle.ahci_script.specs.Number.{below, decimal_below, decimal_of, hex_digit_of, hexadecimal_of, hexadecimal_value, is_decimal, not_hexadecimal, with_digit, with_hex_digit}
use Rattle.ahci_script.specs.Printing.{before}
use Rattle.ahci_script.specs.Words.{Rest, next_of, placed, word_of}
use Rattle.ahci_script.specs.declared.breach.Breach.{Breach}
use Rattle.ahci_script.specs.declared.fault.Fault.{Fault}
use Rattle.ahci_script.specs.declared.fault.Fault.TheVariants.{LongNumber, LongRegister, NotDecimal, WideNumber}
use Rattle.ahci_script.proofs.PrintingLemmas.{Digits, Spells, is_word, word-before, word-last}

-- a text is its first word and what is after the space
split_at : (i : ℕ) (xs : List ℕ) → i < length xs → get_or xs i 0 ≡ 32 → before (take i xs) (drop (i + 1) xs) ≡ xs
split_at i xs h space =
    ap (λ b. take i xs ++ b ∷ drop (i + 1) xs) (sym space) ∙ ap (λ t. take i xs ++ t) (sym (drop_more xs i 0 h)) ∙ take-append-drop i xs

-- a word is read off its text, where a space is after it
pub read_before : {T : Type 0} (spelled : List ℕ → Result T Fault) (value : T) (i : ℕ) (xs : List ℕ) → i < length xs → get_or xs i 0 ≡ 32
    → Spells spelled (take i xs) value → word_of spelled (Some xs) ≡ Ok (value, Some (drop (i + 1) xs))
read_before spelled value i xs h space s = ap (λ t. word_of spelled (Some t)) (sym (split_at i xs h space)) ∙ word-before (drop (i + 1) xs) s

-- one more decimal digit
one_digit : (b : ℕ) → 48 ≤ b → b ≤ 57 → is_ascii_digit b ≡ true
one_digit b low high = grind (arith, nat_tests)

digit-word : (b : ℕ) → 48 ≤ b → not (b == 32) ≡ true
digit-word b low = grind (arith, nat_tests)

pub next_digit : (v i b : ℕ) (xs : List ℕ) → i < length xs → get_or xs i 0 ≡ b → 48 ≤ b → b ≤ 57 → Digits v (take i xs) → Digits (10 * v + (b - 48)) (take (i + 1) xs)
next_digit v i b xs h is low high d =
    let more : take (i + 1) xs ≡ take i xs ++ b ∷ [] = take_more xs i 0 h ∙ ap (λ x. take i xs ++ x ∷ []) is in
    rw more (record {
      value = fold_push with_digit 0 (take i xs) b ∙ ap (λ w. with_digit w b) d.value;
      all = list_all-append is_ascii_digit (take i xs) (b ∷ []) ∙ and_from (list_all is_ascii_digit (take i xs)) _ d.all (and_from (is_ascii_digit b) true (one_digit b low high) refl);
      word = list_all-append (λ x. not (x == 32)) (take i xs) (b ∷ []) ∙ and_from (is_word (take i xs)) _ d.word (and_from (not (b == 32)) true (digit-word b low) refl);
    })

-- and with up to 19 of them a number fits
pub fits_digit : (v i b : ℕ) → v < 10 ^ i → i < 19 → b ≤ 57 → 10 * v + (b - 48) < 10 ^ (i + 1)
fits_digit v i b so_far few high =
    let next : 10 ^ (i + 1) ≡ 10 ^ i * 10 = ap (λ n. 10 ^ n) (add-one i) ∙ pow-suc 10 i in
    omega (arith, next)

pub few_digits : (v i : ℕ) → v < 10 ^ i → i ≤ 19 → v < 2 ^ 64
few_digits v i so_far few =
    let top : 10 ^ i ≤ 10 ^ 19 = pow-le-pow_right {n = 10} (omega arith) {i = i} {j = 19} few in
    omega (arith, top)

pub digit_fits : (v i b : ℕ) → v < 10 ^ i → i < 19 → b ≤ 57 → 10 * v + (b - 48) < 2 ^ 64
digit_fits v i b so_far few high = few_digits (10 * v + (b - 48)) (i + 1) (fits_digit v i b so_far few high) (omega arith)

decimal-spelled : (v : ℕ) (ds : List ℕ) → Digits v ds → 0 < length ds → length ds ≤ 20 → v < 2 ^ 64 → Spells decimal_of ds v
decimal-spelled v ds d some few fits = record {
  whole = d.word;
  some = some;
  is =
      let is : is_decimal ds ≡ true = and_from (ltb 0 (length ds)) (list_all is_ascii_digit ds) (lt-ltb 0 (length ds) some) d.all in
      cond-true (is_decimal ds) _ (Err NotDecimal) is
      ∙ cond-false (ltb 20 (length ds)) (Err LongNumber) _ (lt-leb 21 (length ds) (omega (arith, few)))
      ∙ ap (λ w. ok_or (below (2 ^ 64) w) WideNumber) d.value
      ∙ ap (λ o. ok_or o WideNumber) (cond-true (ltb v (2 ^ 64)) (Some v) None (lt-ltb v (2 ^ 64) fits));
}

-- a decimal number that ends at a space, and one that ends its text
pub decimal_before : (v i : ℕ) (xs : List ℕ) → i < length xs → get_or xs i 0 ≡ 32 → 0 < i → i ≤ 19 → v < 10 ^ i → Digits v (take i xs)
    → word_of decimal_of (Some xs) ≡ Ok (v, Some (drop (i + 1) xs))
decimal_before v i xs h space some few small d =
    let long : length (take i xs) ≡ i = length-take-le i xs (omega arith) in
    read_before decimal_of v i xs h space (decimal-spelled v (take i xs) d (omega (arith, long)) (omega (arith, long)) (few_digits v i small few))

pub decimal_last : (v i : ℕ) (xs : List ℕ) → length xs ≤ i → 0 < length xs → i ≤ 19 → v < 10 ^ i → Digits v (take i xs) → word_of decimal_of (Some xs) ≡ Ok (v, None)
decimal_last v i xs h some few small d =
    let all : take i xs ≡ xs = take_all i xs h in
    word-last (decimal-spelled v xs (rw (← all) d) some (omega arith) (few_digits v i small few))

-- a number below a limit
pub number_below : (limit : ℕ) (large : ℕ → Fault) (rest others : Rest) (n : ℕ) → word_of decimal_of rest ≡ Ok (n, others) → n < limit
    → word_of (decimal_below limit large) rest ≡ Ok (n, others)
unfolding word_of
number_below limit large rest others n is h = in_words (next_of rest) is
  where
    placed_below : (text : List ℕ) (after : Rest) (r : Result ℕ Fault) → placed text after r ≡ Ok (n, others)
        → placed text after (r >>= λ m. cond (ltb m limit) (Ok m) (Err (large m))) ≡ Ok (n, others)
    placed_below text after (Err fault) e = cc
    placed_below text after (Ok m) e =
        let both : (m, after) ≡ (n, others) = cc in
        let same : m ≡ n = ap (λ (p : ℕ × Rest). p.0) both in
        ap (placed text after) (cond-true (ltb m limit) (Ok m) (Err (large m)) (lt-ltb m limit (omega (arith, same, h)))) ∙ e

    in_words : (w : Result (List ℕ × List ℕ × Rest) Breach) → (w >>= λ w. placed w.0 w.2 (decimal_of w.1)) ≡ Ok (n, others)
        → (w >>= λ w. placed w.0 w.2 (decimal_below limit large w.1)) ≡ Ok (n, others)
    in_words (Err breach) e = cc
    in_words (Ok w) e = placed_below w.0 w.2 (decimal_of w.1) e

-- what holds of the hexadecimal digits of a number
pub record HexDigits (n : ℕ) (ds : List ℕ) : Type 0 where
  pub value : hexadecimal_value ds ≡ Some n
  pub word : is_word ds ≡ true

hex-word : (b d : ℕ) → hex_digit_of b ≡ Some d → not (b == 32) ≡ true
hex-word b d is = grind (arith, nat_tests)

pub next_hex : (v i d : ℕ) (xs : List ℕ) → i < length xs → hex_digit_of (get_or xs i 0) ≡ Some d → HexDigits v (take i xs) → HexDigits (16 * v + d) (take (i + 1) xs)
next_hex v i d xs h is s =
    let b = get_or xs i 0 in
    rw (take_more xs i 0 h) (record {
      value = fold_push with_hex_digit (Some 0) (take i xs) b ∙ ap (λ w. with_hex_digit w b) s.value ∙ ap (option_and_then (λ x. Some (16 * v + x))) is;
      word = list_all-append (λ x. not (x == 32)) (take i xs) (b ∷ []) ∙ and_from (is_word (take i xs)) _ s.word (and_from (not (b == 32)) true (hex-word b d is) refl);
    })

hex-spelled : (v : ℕ) (ds : List ℕ) → HexDigits v ds → 0 < length ds → length ds ≤ 8 → Spells hexadecimal_of ds v
hex-spelled v ds s some few = record {
  whole = s.word;
  some = some;
  is =
      let short : (ltb 0 (length ds) && leb (length ds) 8) ≡ true = and_from (ltb 0 (length ds)) _ (lt-ltb 0 (length ds) some) (grind (arith, nat_tests)) in
      ap (λ o. ok_or o (not_hexadecimal ds LongRegister)) (cond-true _ (hexadecimal_value ds) None short ∙ s.value);
}

pub hex_before : (v i : ℕ) (xs : List ℕ) → i < length xs → get_or xs i 0 ≡ 32 → 0 < i → i ≤ 8 → HexDigits v (take i xs)
    → word_of hexadecimal_of (Some xs) ≡ Ok (v, Some (drop (i + 1) xs))
hex_before v i xs h space some few s =
    let long : length (take i xs) ≡ i = length-take-le i xs (omega arith) in
    read_before hexadecimal_of v i xs h space (hex-spelled v (take i xs) s (omega (arith, long)) (omega (arith, long)))

pub hex_last : (v i : ℕ) (xs : List ℕ) → length xs ≤ i → 0 < length xs → i ≤ 8 → HexDigits v (take i xs) → word_of hexadecimal_of (Some xs) ≡ Ok (v, None)
hex_last v i xs h some few s =
    let all : take i xs ≡ xs = take_all i xs h in
    word-last (hex-spelled v xs (rw (← all) s) some (omega arith))
