-- Lemmas on the set of a word's bits.
use Rattle.std.proofs.Common.{◌≡◌, ℕ, zero, suc, ◌+◌, ◌-◌, ◌*◌, ◌/◌, ◌%◌, ◌^◌, ◌<◌, ◌≤◌, min, max, Bool, true, false, not, ◌&&◌, ◌||◌, List, [], ◌∷◌, length, nat_eq, bit_and, bit_or, sym, ◌∙◌, refl, ap, subst, ⊎_elim, eq-eqb, ne_eqb, if◌then◌else◌, arith}
use Rattle.std.specs.Int.{w32, bit_at, bit_not, trailing_zeros, leading_zeros}
use Rattle.std.proofs.lemmas.Bool.{cases_eq, cases_lt}
use Rattle.std.proofs.lemmas.Nat.{pow_pos, one_shl, leading_top}
use Rattle.std.proofs.Math.Nat.{pow-suc}
use Rattle.std.proofs.lemmas.Nat.Bits.{bit_at-lt, bit_at_lowest, bit_at-suc, bit_at-zero, bit_at_above, bit_at_cat_high, bit_at-trailing_zeros, bit_at_and, bit_at_or, bit_at_not, bit_at-pow_same, bit_at-pow_other, bit_at_ones, bit_at_ones_above, bit_at_set_same, bit_at_set_other, bit_at_clear_same, bit_at_clear_other, same_from_bits_below, shr_and_one, and_pow}
use Rattle.word_bits.specs.Places.{bits, word_of, has_place, no_places, all_places, with_place, without_place, union, intersection, minus, only_below, IsLowest, IsHighest}
use Rattle.word_bits.proofs.PlacesLemmas.{length-places, length-no_places, length-all_places, length-with_place, length-without_place, length-union, length-intersection, length-minus, length-only_below, has_place_past, has_place-places, has_place-no_places, has_place-all_places, has_place-with_same, has_place-with_other, has_place-without_same, has_place-without_other, has_place-union, has_place-intersection, has_place-minus, has_place-only_below, has_place-only_below_past, same_sets, and_true, and_false}

pub length-bits : (w : ℕ) → length (bits w) ≡ 32
unfolding bits
length-bits w = length-places (λ i. nat_eq (bit_at w i) 1)

pub has_place-bits : (w i : ℕ) → i < 32 → has_place (bits w) i ≡ nat_eq (bit_at w i) 1
unfolding bits
has_place-bits w i h = has_place-places (λ i. nat_eq (bit_at w i) 1) i h

pub has_bit_past : (w i : ℕ) → 32 ≤ i → has_place (bits w) i ≡ false
has_bit_past w i h = has_place_past (bits w) i (omega (arith, length-bits w))

-- a set is that of a word's bits where it agrees with each of them
pub bits_by : (w : ℕ) (s : List Bool) → length s ≡ 32 → ((i : ℕ) → i < 32 → nat_eq (bit_at w i) 1 ≡ has_place s i) → bits w ≡ s
bits_by w s l each =
    same_sets (bits w) s (length-bits w ∙ sym l) (λ i h. let b : i < 32 = omega (arith, length-bits w) in has_place-bits w i b ∙ each i b)

-- ---- the operators on whole words

-- what holds of 0 and of 1 holds of every bit, and so for two of them
of_bit : (P : ℕ → Type 0) → P 0 → P 1 → (x : ℕ) → x < 2 → P x
of_bit P none one zero h = none
of_bit P none one (suc zero) h = one
of_bit P none one (suc (suc x)) h = absurd (omega arith)

of_bits : (P : ℕ → ℕ → Type 0) → P 0 0 → P 0 1 → P 1 0 → P 1 1 → (x y : ℕ) → x < 2 → y < 2 → P x y
of_bits P none second first both x y p q =
    of_bit (λ x. P x y) (of_bit (P 0) none second y q) (of_bit (P 1) first both y q) x p

or_bit : (x y : ℕ) → x < 2 → y < 2 → nat_eq (max x y) 1 ≡ (nat_eq x 1 || nat_eq y 1)
or_bit = of_bits (λ x y. nat_eq (max x y) 1 ≡ (nat_eq x 1 || nat_eq y 1)) refl refl refl refl

and_bit : (x y : ℕ) → x < 2 → y < 2 → nat_eq (min x y) 1 ≡ (nat_eq x 1 && nat_eq y 1)
and_bit = of_bits (λ x y. nat_eq (min x y) 1 ≡ (nat_eq x 1 && nat_eq y 1)) refl refl refl refl

not_bit : (x : ℕ) → x < 2 → nat_eq (1 - x) 1 ≡ not (nat_eq x 1)
not_bit = of_bit (λ x. nat_eq (1 - x) 1 ≡ not (nat_eq x 1)) refl refl

-- `a | b`
pub bits_or : (a b : ℕ) → bits (bit_or a b) ≡ union (bits a) (bits b)
bits_or a b =
    bits_by (bit_or a b) (union (bits a) (bits b)) (length-union (bits a) (bits b) (length-bits a ∙ sym (length-bits b)) ∙ length-bits a)
    (λ i h. simp (bit_at_or a b i, or_bit (bit_at a i) (bit_at b i) (bit_at-lt a i) (bit_at-lt b i), has_place-union (bits a) (bits b) i, has_place-bits a i h, has_place-bits b i h))

-- `a & b`
pub bits_and : (a b : ℕ) → bits (bit_and a b) ≡ intersection (bits a) (bits b)
bits_and a b =
    bits_by (bit_and a b) (intersection (bits a) (bits b)) (length-intersection (bits a) (bits b) ∙ length-bits a)
    (λ i h. simp (bit_at_and a b i, and_bit (bit_at a i) (bit_at b i) (bit_at-lt a i) (bit_at-lt b i), has_place-intersection (bits a) (bits b) i, has_place-bits a i h, has_place-bits b i h))

-- `a & !b`
pub bits_and_not : (a b : ℕ) → b < 2 ^ 32 → bits (bit_and a (bit_not w32 b)) ≡ minus (bits a) (bits b)
bits_and_not a b q =
    bits_by (bit_and a (bit_not w32 b)) (minus (bits a) (bits b)) (length-minus (bits a) (bits b) ∙ length-bits a)
    (λ i h. let n : bit_at (bit_not w32 b) i < 2 = bit_at-lt (bit_not w32 b) i in
    ap (λ x. nat_eq x 1) (bit_at_and a (bit_not w32 b) i) ∙ and_bit (bit_at a i) (bit_at (bit_not w32 b) i) (bit_at-lt a i) n
    ∙ ap (λ x. nat_eq (bit_at a i) 1 && nat_eq x 1) (bit_at_not w32 b i q h) ∙ ap (λ x. nat_eq (bit_at a i) 1 && x) (not_bit (bit_at b i) (bit_at-lt b i))
    ∙ sym (has_place-minus (bits a) (bits b) i ∙ ap (λ x. x && not (has_place (bits b) i)) (has_place-bits a i h) ∙ ap (λ x. nat_eq (bit_at a i) 1 && not x) (has_place-bits b i h)))

-- ---- whole words

pub bits_zero : bits 0 ≡ no_places
bits_zero =
    bits_by 0 no_places length-no_places (λ i h. ap (λ x. nat_eq x 1) (bit_at-zero i) ∙ sym (has_place-no_places i))

-- the bits of the places below a depth
pub bits_ones : (d : ℕ) → d ≤ 32 → bits (2 ^ d - 1) ≡ only_below d all_places
bits_ones d l =
    bits_by (2 ^ d - 1) (only_below d all_places) (length-only_below d all_places ∙ length-all_places)
    (λ i h. ⊎_elim (λ b. ap (λ x. nat_eq x 1) (bit_at_ones d i b) ∙ sym (has_place-only_below d all_places i b ∙ has_place-all_places i h))
    (λ b. ap (λ x. nat_eq x 1) (bit_at_ones_above d i b) ∙ sym (has_place-only_below_past d all_places i b)) (cases_lt i d))

-- `(1u64 << d) - 1`
pub bits_ones_shifted : (d : ℕ) → d ≤ 32 → bits (1 * 2 ^ d % 2 ^ 64 - 1) ≡ only_below d all_places
bits_ones_shifted d l = ap (λ x. bits (x - 1)) (one_shl d 64 (omega arith)) ∙ bits_ones d l

-- `u32::MAX`
pub bits_max : bits (2 ^ 32 - 1) ≡ all_places
bits_max = bits_by (2 ^ 32 - 1) all_places length-all_places (λ i h. ap (λ x. nat_eq x 1) (bit_at_ones 32 i h) ∙ sym (has_place-all_places i h))

-- ---- two words with the same bits are one

same_bit : (x y : ℕ) → x < 2 → y < 2 → nat_eq x 1 ≡ nat_eq y 1 → x ≡ y
same_bit = of_bits (λ x y. nat_eq x 1 ≡ nat_eq y 1 → x ≡ y) (λ e. refl) (λ e. cc) (λ e. cc) (λ e. refl)

pub same_word : (a b : ℕ) → a < 2 ^ 32 → b < 2 ^ 32 → bits a ≡ bits b → a ≡ b
same_word a b p q e =
    same_from_bits_below 32 a b p q (λ i h. same_bit (bit_at a i) (bit_at b i) (bit_at-lt a i) (bit_at-lt b i) (sym (has_place-bits a i h) ∙ ap (λ s. has_place s i) e ∙ has_place-bits b i h))

-- ---- one place

-- `w | 1 << t`
pub bits_set : (w t : ℕ) → t < 32 → bits (bit_or w (1 * 2 ^ t % 2 ^ 32)) ≡ with_place (bits w) t
bits_set w t b =
    bits_by (bit_or w (1 * 2 ^ t % 2 ^ 32)) (with_place (bits w) t) (length-with_place (bits w) t ∙ length-bits w)
    (λ i h. ⊎_elim (λ e. rw e (ap (λ x. nat_eq x 1) (bit_at_set_same w32 w t b) ∙ sym (has_place-with_same (bits w) t (omega (arith, length-bits w)))))
    (λ e. ap (λ x. nat_eq x 1) (bit_at_set_other w32 w t b i e) ∙ sym (has_place-with_other (bits w) t i e ∙ has_place-bits w i h)) (cases_eq i t))

-- `w & !(1 << t)`
pub bits_clear : (w t : ℕ) → t < 32 → bits (bit_and w (bit_not w32 (1 * 2 ^ t % 2 ^ 32))) ≡ without_place (bits w) t
bits_clear w t b =
    bits_by (bit_and w (bit_not w32 (1 * 2 ^ t % 2 ^ 32))) (without_place (bits w) t) (length-without_place (bits w) t ∙ length-bits w)
    (λ i h. ⊎_elim (λ e. rw e (ap (λ x. nat_eq x 1) (bit_at_clear_same w32 w t b) ∙ sym (has_place-without_same (bits w) t)))
    (λ e. ap (λ x. nat_eq x 1) (bit_at_clear_other w32 w t b i h e) ∙ sym (has_place-without_other (bits w) t i e ∙ has_place-bits w i h)) (cases_eq i t))

-- the word of one place
pub bits_pow : (t : ℕ) → t < 32 → bits (2 ^ t) ≡ with_place no_places t
bits_pow t b =
    bits_by (2 ^ t) (with_place no_places t) (length-with_place no_places t ∙ length-no_places)
    (λ i h. ⊎_elim (λ e. rw e (ap (λ x. nat_eq x 1) (bit_at-pow_same t) ∙ sym (has_place-with_same no_places t (omega (arith, length-no_places)))))
    (λ e. ap (λ x. nat_eq x 1) (bit_at-pow_other t i e) ∙ sym (has_place-with_other no_places t i e ∙ has_place-no_places i)) (cases_eq i t))

-- `1 << t`
pub bits_one : (t : ℕ) → t < 32 → bits (1 * 2 ^ t % 2 ^ 32) ≡ with_place no_places t
bits_one t b = ap bits (one_shl t 32 b) ∙ bits_pow t b

-- `(w >> t) & 1 == 1`
pub test_shifted : (w t : ℕ) → t < 32 → nat_eq (bit_and (w / 2 ^ t) 1) 1 ≡ has_place (bits w) t
test_shifted w t b = ap (λ x. nat_eq x 1) (shr_and_one w t) ∙ sym (has_place-bits w t b)

masked_bit : (x n : ℕ) → x < 2 → 0 < n → not (nat_eq (x * n) 0) ≡ nat_eq x 1
masked_bit zero n p q = let e : 0 * n ≡ 0 = omega arith in ap (λ y. not (nat_eq y 0)) e
masked_bit (suc zero) n p q = ap not (ne_eqb (1 * n) 0 (λ e. absurd (omega arith)))
masked_bit (suc (suc x)) n p q = absurd (omega arith)

-- `w & (1 << t) != 0`
pub test_masked : (w t : ℕ) → t < 32 → not (nat_eq (bit_and w (1 * 2 ^ t % 2 ^ 32)) 0) ≡ has_place (bits w) t
test_masked w t b =
    ap (λ x. not (nat_eq (bit_and w x) 0)) (one_shl t 32 b) ∙ ap (λ x. not (nat_eq x 0)) (and_pow w t)
    ∙ masked_bit (bit_at w t) (2 ^ t) (bit_at-lt w t) (pow_pos t) ∙ sym (has_place-bits w t b)

contained_bit : (x n : ℕ) → x < 2 → 0 < n → nat_eq (x * n) n ≡ nat_eq x 1
contained_bit zero n p q = let e : 0 * n ≡ 0 = omega arith in ap (λ y. nat_eq y n) e ∙ ne_eqb 0 n (λ e. absurd (omega arith))
contained_bit (suc zero) n p q = eq-eqb (1 * n) n (omega arith)
contained_bit (suc (suc x)) n p q = absurd (omega arith)

-- `w & m == m`, where m has one bit
pub test_contains : (w t : ℕ) → t < 32 → nat_eq (bit_and w (2 ^ t)) (2 ^ t) ≡ has_place (bits w) t
test_contains w t b =
    ap (λ x. nat_eq x (2 ^ t)) (and_pow w t) ∙ contained_bit (bit_at w t) (2 ^ t) (bit_at-lt w t) (pow_pos t) ∙ sym (has_place-bits w t b)

-- `w & ((1 << d) - 1)`
pub bits_below : (w d : ℕ) → d ≤ 32 → bits (bit_and w (2 ^ d - 1)) ≡ only_below d (bits w)
bits_below w d l =
    bits_by (bit_and w (2 ^ d - 1)) (only_below d (bits w)) (length-only_below d (bits w) ∙ length-bits w)
    (λ i h. let both = ap (λ x. nat_eq x 1) (bit_at_and w (2 ^ d - 1) i) ∙ and_bit (bit_at w i) (bit_at (2 ^ d - 1) i) (bit_at-lt w i) (bit_at-lt (2 ^ d - 1) i) in
    ⊎_elim (λ b. both ∙ ap (λ x. nat_eq (bit_at w i) 1 && nat_eq x 1) (bit_at_ones d i b) ∙ and_true _ ∙ sym (has_place-only_below d (bits w) i b ∙ has_place-bits w i h))
    (λ b. both ∙ ap (λ x. nat_eq (bit_at w i) 1 && nat_eq x 1) (bit_at_ones_above d i b) ∙ and_false _ ∙ sym (has_place-only_below_past d (bits w) i b)) (cases_lt i d))

-- ---- the lowest and the highest place

pub lowest_bit : (w : ℕ) → 0 < w → w < 2 ^ 32 → IsLowest (bits w) (trailing_zeros w32 w)
lowest_bit w p q =
    let t = bit_at-trailing_zeros w32 w p q in
    record {
      here = has_place-bits w _ t.0 ∙ ap (λ x. nat_eq x 1) t.1;
      below = λ k h. has_place-bits w k (omega arith) ∙ ap (λ x. nat_eq x 1) (t.2 k h);
    }

top_bit : (w j : ℕ) → 2 ^ j ≤ w → w < 2 ^ suc j → bit_at w j ≡ 1
top_bit w j p q =
    let e : w ≡ 1 * 2 ^ j + (w - 2 ^ j) = omega arith in
    let b : w - 2 ^ j < 2 ^ j = omega (arith, pow-suc 2 j) in
    let s : j - j ≡ 0 = omega arith in
    ap (λ x. bit_at x j) e ∙ bit_at_cat_high 1 j (w - 2 ^ j) j b (omega arith) ∙ ap (bit_at 1) s

pub highest_bit : (w : ℕ) → 0 < w → w < 2 ^ 32 → IsHighest (bits w) (31 - leading_zeros w32 w)
highest_bit w p q =
    let t = leading_top 32 w p q in
    let e : 31 - leading_zeros w32 w ≡ t.0 = omega arith in
    rw e (record {
      here = has_place-bits w t.0 (omega arith) ∙ ap (λ x. nat_eq x 1) (top_bit w t.0 t.2 t.3);
      above = λ k h. ⊎_elim (λ b. has_place-bits w k b ∙ ap (λ x. nat_eq x 1) (bit_at_above w (suc t.0) k t.3 (omega arith))) (λ b. has_bit_past w k b) (cases_lt k 32);
    })

-- ---- a set as the word that has it

bit_of-lt : (b : Bool) → (if b then 1 else 0) < 2
bit_of-lt true = omega arith
bit_of-lt false = omega arith

bit_of : (b : Bool) → nat_eq (if b then 1 else 0) 1 ≡ b
bit_of true = refl
bit_of false = refl

pub word_of-lt : (s : List Bool) → word_of s < 2 ^ length s
unfolding word_of
word_of-lt [] = omega arith
word_of-lt (b ∷ s) = omega (arith, word_of-lt s, bit_of-lt b, pow-suc 2 (length s))

bit_at-word_of : (s : List Bool) (i : ℕ) → nat_eq (bit_at (word_of s) i) 1 ≡ has_place s i
unfolding word_of
bit_at-word_of [] i = ap (λ x. nat_eq x 1) (bit_at-zero i)
bit_at-word_of (b ∷ s) zero =
    let e : ((if b then 1 else 0) + 2 * word_of s) % 2 ≡ (if b then 1 else 0) = omega (arith, bit_of-lt b) in
    ap (λ x. nat_eq x 1) (bit_at_lowest _ ∙ e) ∙ bit_of b
bit_at-word_of (b ∷ s) (suc i) =
    let e : ((if b then 1 else 0) + 2 * word_of s) / 2 ≡ word_of s = omega (arith, bit_of-lt b) in
    ap (λ x. nat_eq x 1) (bit_at-suc _ i ∙ ap (λ x. bit_at x i) e) ∙ bit_at-word_of s i

pub bits-word_of : (s : List Bool) → length s ≡ 32 → bits (word_of s) ≡ s
bits-word_of s l = bits_by (word_of s) s l (λ i h. bit_at-word_of s i)

pub word_of-bits : (w : ℕ) → w < 2 ^ 32 → word_of (bits w) ≡ w
word_of-bits w q =
    let P : ℕ → Type 0 = λ n. word_of (bits w) < 2 ^ n in
    let b : word_of (bits w) < 2 ^ 32 = subst P (length-bits w) (word_of-lt (bits w)) in
    same_word (word_of (bits w)) w b q (bits-word_of (bits w) (length-bits w))

-- for an attribute, which takes no name with a dash
pub ruleset words_back = (word_of-bits, bits-word_of)
