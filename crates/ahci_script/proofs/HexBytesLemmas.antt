-- Lemmas about bytes that digits spell.
use Rattle.std.proofs.Common.{◌≡◌, ℕ, zero, suc, ◌+◌, ◌*◌, ◌/◌, ◌<◌, List, [], ◌∷◌, length, get_or, arith, refl, sym, subst}
use Rattle.ahci_script.specs.HexBytes.{hex_digit_value, pairs_of}

pub length_pairs : (xs : List ℕ) → length (pairs_of xs) ≡ length xs / 2
length_pairs [] = refl
length_pairs (x ∷ []) = refl
length_pairs (x ∷ y ∷ xs) = let rest = length_pairs xs in omega (arith, rest)

-- the byte at an index is in two digits
pub pairs_at : (xs : List ℕ) (i : ℕ) → i < length (pairs_of xs)
    → get_or (pairs_of xs) i 0 ≡ 16 * hex_digit_value (get_or xs (2 * i) 0) + hex_digit_value (get_or xs (2 * i + 1) 0)
pairs_at [] i h = absurd (omega (arith, h))
pairs_at (x ∷ []) i h = absurd (omega (arith, h))
pairs_at (x ∷ y ∷ xs) zero h = refl
pairs_at (x ∷ y ∷ xs) (suc i) h =
    let all = x ∷ y ∷ xs in
    let here = get_or (pairs_of xs) i 0 in
    let high : 2 * suc i ≡ suc (suc (2 * i)) = omega arith in
    let low : 2 * suc i + 1 ≡ suc (suc (2 * i + 1)) = omega arith in
    subst (λ k. here ≡ 16 * hex_digit_value (get_or all k 0) + hex_digit_value (get_or all (2 * suc i + 1) 0)) (sym high)
    (subst (λ k. here ≡ 16 * hex_digit_value (get_or xs (2 * i) 0) + hex_digit_value (get_or all k 0)) (sym low) (pairs_at xs i (omega arith)))
