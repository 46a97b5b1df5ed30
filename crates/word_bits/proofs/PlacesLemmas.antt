-- Lemmas on sets of places.
use Rattle.std.proofs.Common.{◌≡◌, ◌≢◌, ℕ, zero, suc, ◌<◌, ◌≤◌, Bool, true, false, not, ◌&&◌, ◌||◌, List, [], ◌∷◌, length, sym, ◌∙◌, refl, ap, ⊎_elim, arith}
use Rattle.std.proofs.lemmas.Bool.{cases_eq, cases_lt}
use Rattle.std.proofs.lemmas.List.{get_or_past, get_or-set_same, get_or-set_other, length-set, ext_get_or}
use Rattle.std.proofs.lemmas.List.FromFn.{length-map-range_with_len, get_or-map-range_with_len}
use Rattle.word_bits.specs.Places.{places, has_place, no_places, all_places, with_place, without_place, union, intersection, minus, only_below}

-- ---- truth values

pub or_false : (x : Bool) → (x || false) ≡ x
or_false true = refl
or_false false = refl

pub or_true : (x : Bool) → (x || true) ≡ true
or_true true = refl
or_true false = refl

pub and_false : (x : Bool) → (x && false) ≡ false
and_false true = refl
and_false false = refl

pub and_true : (x : Bool) → (x && true) ≡ x
and_true true = refl
and_true false = refl

-- ---- how long a set is

pub length-places : (p : ℕ → Bool) → length (places p) ≡ 32
unfolding places
length-places p = length-map-range_with_len p 0 32

pub length-no_places : length no_places ≡ 32
unfolding no_places
length-no_places = length-places (λ _. false)

pub length-all_places : length all_places ≡ 32
unfolding all_places
length-all_places = length-places (λ _. true)

pub length-with_place : (s : List Bool) (t : ℕ) → length (with_place s t) ≡ length s
unfolding with_place
length-with_place s t = length-set s t true

pub length-without_place : (s : List Bool) (t : ℕ) → length (without_place s t) ≡ length s
unfolding without_place
length-without_place s t = length-set s t false

pub length-union : (s t : List Bool) → length s ≡ length t → length (union s t) ≡ length s
unfolding union
length-union [] t h = sym h
length-union (x ∷ s) [] h = refl
length-union (x ∷ s) (y ∷ t) h = let e : length s ≡ length t = omega arith in ap suc (length-union s t e)

pub length-intersection : (s t : List Bool) → length (intersection s t) ≡ length s
unfolding intersection
length-intersection [] t = refl
length-intersection (x ∷ s) [] = ap suc (length-intersection s [])
length-intersection (x ∷ s) (y ∷ t) = ap suc (length-intersection s t)

pub length-minus : (s t : List Bool) → length (minus s t) ≡ length s
unfolding minus
length-minus [] t = refl
length-minus (x ∷ s) [] = refl
length-minus (x ∷ s) (y ∷ t) = ap suc (length-minus s t)

pub length-only_below : (d : ℕ) (s : List Bool) → length (only_below d s) ≡ length s
unfolding only_below
length-only_below d [] = refl
length-only_below zero (x ∷ s) = ap suc (length-only_below zero s)
length-only_below (suc d) (x ∷ s) = ap suc (length-only_below d s)

-- ---- which places a set has

pub has_place_past : (s : List Bool) (i : ℕ) → length s ≤ i → has_place s i ≡ false
has_place_past s i h = get_or_past s i false h

pub has_place-places : (p : ℕ → Bool) (i : ℕ) → i < 32 → has_place (places p) i ≡ p i
unfolding places
has_place-places p i h = get_or-map-range_with_len p 0 32 i i false h (omega arith)

pub has_place-no_places : (i : ℕ) → has_place no_places i ≡ false
unfolding no_places
has_place-no_places i =
    ⊎_elim (λ h. has_place-places (λ _. false) i h) (λ h. has_place_past (places (λ _. false)) i (omega (arith, length-places (λ _. false)))) (cases_lt i 32)

pub has_place-all_places : (i : ℕ) → i < 32 → has_place all_places i ≡ true
unfolding all_places
has_place-all_places i h = has_place-places (λ _. true) i h

pub has_place-with_same : (s : List Bool) (t : ℕ) → t < length s → has_place (with_place s t) t ≡ true
unfolding with_place
has_place-with_same s t h = get_or-set_same s t true false h

pub has_place-with_other : (s : List Bool) (t i : ℕ) → i ≢ t → has_place (with_place s t) i ≡ has_place s i
unfolding with_place
has_place-with_other s t i h = get_or-set_other s t i true false h

pub has_place-without_other : (s : List Bool) (t i : ℕ) → i ≢ t → has_place (without_place s t) i ≡ has_place s i
unfolding without_place
has_place-without_other s t i h = get_or-set_other s t i false false h

pub has_place-without_same : (s : List Bool) (t : ℕ) → has_place (without_place s t) t ≡ false
unfolding without_place
has_place-without_same [] t = refl
has_place-without_same (x ∷ s) zero = refl
has_place-without_same (x ∷ s) (suc t) = has_place-without_same s t

pub has_place-union : (s t : List Bool) (i : ℕ) → has_place (union s t) i ≡ (has_place s i || has_place t i)
unfolding union
has_place-union [] t i = refl
has_place-union (x ∷ s) [] i = sym (or_false _)
has_place-union (x ∷ s) (y ∷ t) zero = refl
has_place-union (x ∷ s) (y ∷ t) (suc i) = has_place-union s t i

pub has_place-intersection : (s t : List Bool) (i : ℕ) → has_place (intersection s t) i ≡ (has_place s i && has_place t i)
unfolding intersection
has_place-intersection [] t i = refl
has_place-intersection (x ∷ s) [] zero = sym (and_false x)
has_place-intersection (x ∷ s) [] (suc i) = has_place-intersection s [] i
has_place-intersection (x ∷ s) (y ∷ t) zero = refl
has_place-intersection (x ∷ s) (y ∷ t) (suc i) = has_place-intersection s t i

pub has_place-minus : (s t : List Bool) (i : ℕ) → has_place (minus s t) i ≡ (has_place s i && not (has_place t i))
unfolding minus
has_place-minus [] t i = refl
has_place-minus (x ∷ s) [] i = sym (and_true _)
has_place-minus (x ∷ s) (y ∷ t) zero = refl
has_place-minus (x ∷ s) (y ∷ t) (suc i) = has_place-minus s t i

pub has_place-only_below : (d : ℕ) (s : List Bool) (i : ℕ) → i < d → has_place (only_below d s) i ≡ has_place s i
unfolding only_below
has_place-only_below d [] i h = refl
has_place-only_below zero (x ∷ s) i h = absurd (omega arith)
has_place-only_below (suc d) (x ∷ s) zero h = refl
has_place-only_below (suc d) (x ∷ s) (suc i) h = has_place-only_below d s i (omega arith)

pub has_place-only_below_past : (d : ℕ) (s : List Bool) (i : ℕ) → d ≤ i → has_place (only_below d s) i ≡ false
unfolding only_below
has_place-only_below_past d [] i h = refl
has_place-only_below_past zero (x ∷ s) zero h = refl
has_place-only_below_past zero (x ∷ s) (suc i) h = has_place-only_below_past zero s i (omega arith)
has_place-only_below_past (suc d) (x ∷ s) zero h = absurd (omega arith)
has_place-only_below_past (suc d) (x ∷ s) (suc i) h = has_place-only_below_past d s i (omega arith)

-- ---- when two sets are one

pub same_sets : (s t : List Bool) → length s ≡ length t → ((i : ℕ) → i < length s → has_place s i ≡ has_place t i) → s ≡ t
same_sets s t h each = ext_get_or false s t h each

pub same_places : (p q : ℕ → Bool) → ((i : ℕ) → i < 32 → p i ≡ q i) → places p ≡ places q
same_places p q each =
    same_sets (places p) (places q) (length-places p ∙ sym (length-places q))
    (λ i h. let b : i < 32 = omega (arith, length-places p) in has_place-places p i b ∙ each i b ∙ sym (has_place-places q i b))

-- a set of 32 truth values is that of the places that it has
pub places-has_place : (s : List Bool) → length s ≡ 32 → places (has_place s) ≡ s
places-has_place s h =
    same_sets (places (has_place s)) s (length-places (has_place s) ∙ sym h) (λ i b. has_place-places (has_place s) i (omega (arith, length-places (has_place s))))

-- ---- a set given by a test

pub places_none : (p : ℕ → Bool) → ((i : ℕ) → i < 32 → p i ≡ false) → places p ≡ no_places
unfolding no_places
places_none p each = same_places p (λ _. false) each

pub with_place-places : (p q : ℕ → Bool) (t : ℕ) → t < 32 → q t ≡ true → ((i : ℕ) → i < 32 → i ≢ t → q i ≡ p i) → with_place (places p) t ≡ places q
with_place-places p q t b here others =
    let l : length (with_place (places p) t) ≡ 32 = length-with_place (places p) t ∙ length-places p in
    same_sets (with_place (places p) t) (places q) (l ∙ sym (length-places q))
    (λ i h. let c : i < 32 = omega arith in
    ⊎_elim (λ e. rw e (has_place-with_same (places p) t (omega (arith, length-places p)) ∙ sym (has_place-places q t b ∙ here)))
    (λ e. has_place-with_other (places p) t i e ∙ has_place-places p i c ∙ sym (has_place-places q i c ∙ others i c e)) (cases_eq i t))

pub without_place-places : (p q : ℕ → Bool) (t : ℕ) → t < 32 → q t ≡ false → ((i : ℕ) → i < 32 → i ≢ t → q i ≡ p i) → without_place (places p) t ≡ places q
without_place-places p q t b here others =
    let l : length (without_place (places p) t) ≡ 32 = length-without_place (places p) t ∙ length-places p in
    same_sets (without_place (places p) t) (places q) (l ∙ sym (length-places q))
    (λ i h. let c : i < 32 = omega arith in
    ⊎_elim (λ e. rw e (has_place-without_same (places p) t ∙ sym (has_place-places q t b ∙ here)))
    (λ e. has_place-without_other (places p) t i e ∙ has_place-places p i c ∙ sym (has_place-places q i c ∙ others i c e)) (cases_eq i t))

-- ---- one place by the words for whole sets

pub union-with_place : (s : List Bool) (t : ℕ) → length s ≡ 32 → t < 32 → union s (with_place no_places t) ≡ with_place s t
union-with_place s t l b =
    let n : length (with_place no_places t) ≡ 32 = length-with_place no_places t ∙ length-no_places in
    same_sets (union s (with_place no_places t)) (with_place s t) (length-union s (with_place no_places t) (l ∙ sym n) ∙ sym (length-with_place s t))
    (λ i h. has_place-union s (with_place no_places t) i
    ∙ ⊎_elim (λ e. rw e (ap (λ x. has_place s t || x) (has_place-with_same no_places t (omega (arith, length-no_places))) ∙ or_true _ ∙ sym (has_place-with_same s t (omega arith))))
    (λ e. ap (λ x. has_place s i || x) (has_place-with_other no_places t i e ∙ has_place-no_places i) ∙ or_false _ ∙ sym (has_place-with_other s t i e)) (cases_eq i t))

pub minus-with_place : (s : List Bool) (t : ℕ) → t < 32 → minus s (with_place no_places t) ≡ without_place s t
minus-with_place s t b =
    same_sets (minus s (with_place no_places t)) (without_place s t) (length-minus s (with_place no_places t) ∙ sym (length-without_place s t))
    (λ i h. has_place-minus s (with_place no_places t) i
    ∙ ⊎_elim (λ e. rw e (ap (λ x. has_place s t && not x) (has_place-with_same no_places t (omega (arith, length-no_places))) ∙ and_false _ ∙ sym (has_place-without_same s t)))
    (λ e. ap (λ x. has_place s i && not x) (has_place-with_other no_places t i e ∙ has_place-no_places i) ∙ and_true _ ∙ sym (has_place-without_other s t i e)) (cases_eq i t))

-- ---- nothing added, nothing taken away

pub union-no_places : (s : List Bool) → length s ≡ 32 → union s no_places ≡ s
union-no_places s l =
    same_sets (union s no_places) s (length-union s no_places (l ∙ sym length-no_places)) (λ i h. has_place-union s no_places i ∙ ap (λ x. has_place s i || x) (has_place-no_places i) ∙ or_false _)

pub minus-no_places : (s : List Bool) → minus s no_places ≡ s
minus-no_places s =
    same_sets (minus s no_places) s (length-minus s no_places) (λ i h. has_place-minus s no_places i ∙ ap (λ x. has_place s i && not x) (has_place-no_places i) ∙ and_true _)

pub only_below-no_places : (d : ℕ) → only_below d no_places ≡ no_places
only_below-no_places d =
    same_sets (only_below d no_places) no_places (length-only_below d no_places)
    (λ i h. ⊎_elim (λ b. has_place-only_below d no_places i b) (λ b. has_place-only_below_past d no_places i b ∙ sym (has_place-no_places i)) (cases_lt i d))

-- ---- nothing taken from none

pub minus-none : (t : List Bool) → minus no_places t ≡ no_places
minus-none t =
    same_sets (minus no_places t) no_places (length-minus no_places t)
    (λ i h. has_place-minus no_places t i ∙ ap (λ x. x && not (has_place t i)) (has_place-no_places i) ∙ sym (has_place-no_places i))

pub without_place-none : (t : ℕ) → without_place no_places t ≡ no_places
without_place-none t =
    same_sets (without_place no_places t) no_places (length-without_place no_places t)
    (λ i h. ⊎_elim (λ e. rw e (has_place-without_same no_places t ∙ sym (has_place-no_places t))) (λ e. has_place-without_other no_places t i e) (cases_eq i t))
