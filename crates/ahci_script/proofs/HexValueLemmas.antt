-- Lemmas about the value of hexadecimal digits.
use Rattle.std.proofs.Common.{◌≡◌, ℕ, ◌+◌, ◌*◌, ◌^◌, ◌<◌, ◌≤◌, List, [], ◌∷◌, length, get_or, drop, fold, arith, Option, Some, None, refl, sym, ap, suc, ◌∙◌}
use Rattle.std.proofs.Math.Nat.{pow-le-pow_right, pow-suc}
use Rattle.std.proofs.lemmas.List.{drop_more}
use Rattle.std.proofs.lemmas.Bool.Decides.{nat_tests}
use Rattle.ahci_script.specs.Number.{hex_digit_of, hexadecimal_value, with_hex_digit}

-- once a letter was no digit there is no value
fold-none : (xs : List ℕ) → fold with_hex_digit None xs ≡ None
fold-none [] = refl
fold-none (x ∷ xs) = fold-none xs

-- the next digit of the rest goes after the number
fold-drop-hex : (number : Option ℕ) (i : ℕ) (xs : List ℕ) → i < length xs
    → fold with_hex_digit number (drop i xs) ≡ fold with_hex_digit (with_hex_digit number (get_or xs i 0)) (drop (i + 1) xs)
fold-drop-hex number i xs h = ap (fold with_hex_digit number) (drop_more xs i 0 h)

-- a letter that is no digit: the word has no value
pub no_digit : (v i : ℕ) (xs : List ℕ) → i < length xs → fold with_hex_digit (Some v) (drop i xs) ≡ hexadecimal_value xs
    → hex_digit_of (get_or xs i 0) ≡ None → hexadecimal_value xs ≡ None
no_digit v i xs within so_far none =
    let gone : fold with_hex_digit (with_hex_digit (Some v) (get_or xs i 0)) (drop (i + 1) xs) ≡ None = rw none (fold-none (drop (i + 1) xs)) in
    sym so_far ∙ fold-drop-hex (Some v) i xs within ∙ gone

-- a digit is below 16
pub hex_digit_of-small : (b d : ℕ) → hex_digit_of b ≡ Some d → d < 16
hex_digit_of-small b d is = grind (arith, nat_tests)

-- one more digit, up to the eighth, leaves a word of 32 bits
pub one_more : (v i d : ℕ) → v < 16 ^ i → i < 8 → d < 16 → 16 * v + d < 2 ^ 32
one_more v i d so_far few digit =
    let top : 16 ^ suc i ≤ 16 ^ 8 = pow-le-pow_right {n = 16} (omega arith) {i = suc i} {j = 8} (omega arith) in
    omega (arith, pow-suc 16 i, top)
