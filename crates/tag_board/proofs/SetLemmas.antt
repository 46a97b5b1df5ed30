-- How often a tag is in two sets together, when it moves from one to the other.
use Rattle.std.proofs.Common.{◌≡◌, ◌≢◌, ℕ, ◌+◌, ◌^◌, ◌<◌, ◌≤◌, Bool, true, false, true≢false, ◌||◌, if◌then◌else◌, List, length, bit_and, bit_or, sym, ◌∙◌, refl, ap, subst, ⊎_elim, inl, inr, ◌⊎◌, arith}
use Rattle.std.specs.Int.{w32, bit_not, bit_at}
use Rattle.std.proofs.lemmas.Bool.{cases_eq, cases_lt}
use Rattle.std.proofs.lemmas.Nat.{one_shl, and_le_l, or_of_32}
use Rattle.std.proofs.lemmas.Nat.Bits.{bit_at-pow_same, bit_at-pow_other}
use Rattle.std.proofs.Math.Pow.{pow-lt}
use Rattle.word_bits.specs.Places.{bits, has_place, with_place, without_place, union}
use Rattle.word_bits.proofs.PlacesLemmas.{has_place_past, has_place-with_same, has_place-with_other, has_place-without_same, has_place-without_other, has_place-union}
use Rattle.word_bits.proofs.BitsLemmas.{length-bits, bits_or, bits_set, bits_clear}
use Rattle.tag_board.specs.Partition.{once}

-- the number that a truth value counts for
abbrev one_if : Bool → ℕ
one_if b = if b then 1 else 0

pub once-true : (s : List Bool) (t : ℕ) → has_place s t ≡ true → once s t ≡ 1
once-true s t e = ap one_if e

pub once-false : (s : List Bool) (t : ℕ) → has_place s t ≡ false → once s t ≡ 0
once-false s t e = ap one_if e

one_if-lt : (b : Bool) → one_if b < 2
one_if-lt true = omega arith
one_if-lt false = omega arith

pub once-lt : (s : List Bool) (t : ℕ) → once s t < 2
once-lt s t = one_if-lt (has_place s t)

-- a truth value is one of two
pub true_or_false : (b : Bool) → (b ≡ true) ⊎ (b ≡ false)
true_or_false true = inl refl
true_or_false false = inr refl

of_none : (b : Bool) → one_if b ≡ 0 → b ≡ false
of_none true e = absurd (omega arith)
of_none false e = refl

of_one : (b : Bool) → 0 < one_if b → b ≡ true
of_one true e = refl
of_one false e = absurd (omega arith)

pub has_not : (s : List Bool) (t : ℕ) → once s t ≡ 0 → has_place s t ≡ false
has_not s t e = of_none (has_place s t) e

pub has : (s : List Bool) (t : ℕ) → 0 < once s t → has_place s t ≡ true
has s t e = of_one (has_place s t) e

-- a set of 32 truth values has no place from 32 on
pub place-lt : (s : List Bool) (t : ℕ) → length s ≡ 32 → has_place s t ≡ true → t < 32
place-lt s t l e = ⊎_elim (λ b. b) (λ b. absurd (true≢false (sym e ∙ has_place_past s t (omega arith)))) (cases_lt t 32)

-- ---- a tag that moves from one set to the other

-- where two sets change at one tag alone, and it is in them as often as before, each tag does
moved_stays : (f g s r : List Bool) (t : ℕ) → once g t + once r t ≡ once f t + once s t → ((i : ℕ) → i ≢ t → has_place g i ≡ has_place f i)
    → ((i : ℕ) → i ≢ t → has_place r i ≡ has_place s i) → (i : ℕ) → once g i + once r i ≡ once f i + once s i
moved_stays f g s r t here first second i =
    ⊎_elim (λ q. subst (λ k. once g k + once r k ≡ once f k + once s k) (sym q) here)
    (λ (q : i ≢ t).
    let a : once g i ≡ once f i = ap one_if (first i q) in
    let b : once r i ≡ once s i = ap one_if (second i q) in
    omega arith)
    (cases_eq i t)

-- a tag that was tried
pub tried_stays : (f s : List Bool) (t : ℕ) (had : Bool) → has_place f t ≡ had → length s ≡ 32 → t < 32 → (had ≡ true → has_place s t ≡ false)
    → (i : ℕ) → once (without_place f t) i + once (if had then with_place s t else s) i ≡ once f i + once s i
tried_stays f s t true e l b apart =
    let w = once-false (without_place f t) t (has_place-without_same f t) in
    let g = once-true (with_place s t) t (has_place-with_same s t (omega arith)) in
    let h = once-true f t e in
    let n = once-false s t (apart refl) in
    moved_stays f (without_place f t) s (with_place s t) t (omega arith) (has_place-without_other f t) (has_place-with_other s t)
tried_stays f s t false e l b apart =
    let w = once-false (without_place f t) t (has_place-without_same f t) in
    let h = once-false f t e in
    moved_stays f (without_place f t) s s t (omega arith) (has_place-without_other f t) (λ i q. refl)

-- a tag that is given back
pub gave_stays : (f s : List Bool) (t : ℕ) → length f ≡ 32 → t < 32 → has_place f t ≡ false → has_place s t ≡ true
    → (i : ℕ) → once (with_place f t) i + once (without_place s t) i ≡ once f i + once s i
gave_stays f s t l b free held =
    let w = once-true (with_place f t) t (has_place-with_same f t (omega arith)) in
    let g = once-false (without_place s t) t (has_place-without_same s t) in
    let h = once-false f t free in
    let n = once-true s t held in
    moved_stays f (with_place f t) s (without_place s t) t (omega arith) (has_place-with_other f t) (has_place-without_other s t)

-- ---- two sets that have no tag in common

one_if-or : (a b : Bool) → one_if a + one_if b ≤ 1 → one_if (a || b) ≡ one_if a + one_if b
one_if-or true true h = absurd (omega arith)
one_if-or true false h = refl
one_if-or false true h = refl
one_if-or false false h = refl

pub once-union : (s r : List Bool) (t : ℕ) → once s t + once r t ≤ 1 → once (union s r) t ≡ once s t + once r t
once-union s r t h = ap one_if (has_place-union s r t) ∙ one_if-or (has_place s t) (has_place r t) h

-- ---- a tag's bit, and its mask

pub bit-lt : (t : ℕ) → t < 32 → 2 ^ t < 2 ^ 32
bit-lt t b = pow-lt b

pub same_bit : (t u : ℕ) → 2 ^ t ≡ 2 ^ u → t ≡ u
same_bit t u e =
    ⊎_elim (λ q. q)
    (λ (q : t ≢ u).
    let one = bit_at-pow_same t in
    let none : bit_at (2 ^ t) t ≡ 0 = ap (λ n. bit_at n t) e ∙ bit_at-pow_other u t q in
    absurd (omega arith))
    (cases_eq t u)

pub same_mask : (t u : ℕ) → t < 32 → u < 32 → bit_not w32 (2 ^ t) ≡ bit_not w32 (2 ^ u) → t ≡ u
same_mask t u p q e = let a = bit-lt t p in let b = bit-lt u q in same_bit t u (omega arith)

pub bits_without : (w t : ℕ) → t < 32 → bits (bit_and w (bit_not w32 (2 ^ t))) ≡ without_place (bits w) t
bits_without w t b = ap (λ n. bits (bit_and w (bit_not w32 n))) (sym (one_shl t 32 b)) ∙ bits_clear w t b

pub bits_with : (w t : ℕ) → t < 32 → bits (bit_or w (2 ^ t)) ≡ with_place (bits w) t
bits_with w t b = ap (λ n. bits (bit_or w n)) (sym (one_shl t 32 b)) ∙ bits_set w t b

pub and_fits : (w k : ℕ) → w < 2 ^ 32 → bit_and w k < 2 ^ 32
and_fits w k h = let l = and_le_l w k in omega arith

pub or_fits : (w t : ℕ) → w < 2 ^ 32 → t < 32 → bit_or w (2 ^ t) < 2 ^ 32
or_fits w t h b = or_of_32 w (2 ^ t) h (bit-lt t b)

-- ---- a word with the bit of one tag more, as the code computes it

pub bits_union : (a b : ℕ) (s r : List Bool) → bits a ≡ s → bits b ≡ r → bits (bit_or a b) ≡ union s r
bits_union a b s r p q = bits_or a b ∙ ap (λ x. union x (bits b)) p ∙ ap (union s) q

pub bits_gained : (w t b : ℕ) (s : List Bool) (had : Bool) → t < 32 → b ≡ 2 ^ t → bits w ≡ s → had ≡ true → bits (bit_or w b) ≡ (if had then with_place s t else s)
bits_gained w t b s true l e p h = ap (λ n. bits (bit_or w n)) e ∙ bits_with w t l ∙ ap (λ x. with_place x t) p
bits_gained w t b s false l e p h = absurd (true≢false (sym h))

pub has_gained : (s : List Bool) (t : ℕ) (had : Bool) → t < 32 → length s ≡ 32 → had ≡ true → has_place (if had then with_place s t else s) t ≡ true
has_gained s t true l n h = has_place-with_same s t (omega arith)
has_gained s t false l n h = absurd (true≢false (sym h))

pub has_returned : (w t b : ℕ) → t < 32 → b ≡ 2 ^ t → has_place (bits (bit_or w b)) t ≡ true
has_returned w t b l e =
    ap (λ n. has_place (bits (bit_or w n)) t) e ∙ ap (λ s. has_place s t) (bits_with w t l) ∙ has_place-with_same (bits w) t (omega (arith, length-bits w))
