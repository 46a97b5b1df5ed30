-- Lemmas about the value of decimal digits.
use Rattle.std.proofs.Common.{◌≡◌, ℕ, ◌+◌, ◌^◌, ◌<◌, ◌≤◌, List, [], ◌∷◌, length, get_or, drop, fold, arith, Some, None, rules, tests}
use Rattle.std.proofs.lemmas.Grind.{common_steps}
use Rattle.std.proofs.lemmas.Bool.Decides.{nat_tests}
use Rattle.ahci_script.specs.Number.{with_digit, below, decimal_value}

-- no digit makes a number smaller
pub digits_grow : (n : ℕ) (xs : List ℕ) → n ≤ fold with_digit n xs
digits_grow n [] = omega arith
digits_grow n (x ∷ xs) = omega (arith, digits_grow (with_digit n x) xs)

-- the next digit of the rest goes after the number
pub fold-drop-digit : (n i : ℕ) (xs : List ℕ) → i < length xs → fold with_digit n (drop i xs) ≡ fold with_digit (with_digit n (get_or xs i 0)) (drop (i + 1) xs)
fold-drop-digit n i xs h = grind (arith, common_steps)

-- a number at or above the limit isn't below it
pub below-above : (limit n : ℕ) → limit ≤ n → below limit n ≡ None
below-above limit n h = search (rules, tests)

pub below-under : (limit n : ℕ) → n < limit → below limit n ≡ Some n
below-under limit n h = search (rules, tests)

-- none below the limit: the number is at or above it
pub above_from_none : (limit n : ℕ) → below limit n ≡ None → limit ≤ n
above_from_none limit n h = grind (arith, nat_tests)

-- a digit that goes past 64 bits: so does the whole value
pub overflows : (v i : ℕ) (xs : List ℕ) → i < length xs → fold with_digit v (drop i xs) ≡ decimal_value xs
    → below (2 ^ 64) (with_digit v (get_or xs i 0)) ≡ None → below (2 ^ 64) (decimal_value xs) ≡ None
overflows v i xs within so_far none =
    let next = with_digit v (get_or xs i 0) in
    let past = above_from_none (2 ^ 64) next none in
    let grows = digits_grow next (drop (i + 1) xs) in
    let turn = fold-drop-digit v i xs within in
    below-above (2 ^ 64) (decimal_value xs) (rw (← so_far, turn) (omega arith))

-- no digit is left: the value so far is that of all digits
pub whole_value : (v i : ℕ) (xs : List ℕ) → length xs ≤ i → fold with_digit v (drop i xs) ≡ decimal_value xs → v < 2 ^ 64 → below (2 ^ 64) (decimal_value xs) ≡ Some v
whole_value v i xs ended so_far fits =
    let same : v ≡ decimal_value xs = grind (arith, common_steps) in
    rw (← same) (below-under (2 ^ 64) v fits)
