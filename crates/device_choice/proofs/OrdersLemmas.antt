-- Lemmas on how many tags a set has, and on what an order names.
use Rattle.std.proofs.Common.{◌≡◌, ℕ, ◌+◌, ◌-◌, ◌*◌, ◌^◌, ◌%◌, ◌<◌, ◌≤◌, Bool, true, false, cond, List, [], ◌∷◌, length, take, get_or, count_ones, sym, ◌∙◌, refl, ap, subst, ⊎_elim, arith}
use Rattle.std.proofs.lemmas.Bool.{both_ways, cases_eq, cases_lt, cases_order, cases_Bool}
use Rattle.std.proofs.lemmas.List.{map-id, take-take, take_all}
use Rattle.std.proofs.lemmas.List.Sums.{count_by_more_yes, count_by_more_no, count_by-le-length, sum_by-set, sum_by-take-le, get_or-le-sum_by}
use Rattle.std.proofs.lemmas.Nat.{zero_from_ones}
use Rattle.std.proofs.lemmas.Simd.{ones-mask_l}
use lib.Lanes.{mask_l}
use Rattle.word_bits.specs.Places.{bits, word_of, has_place, no_places, without_place}
use Rattle.word_bits.proofs.PlacesLemmas.{has_place_past, has_place-no_places, length-no_places, same_sets}
use Rattle.word_bits.proofs.BitsLemmas.{length-bits, word_of-bits, same_word, bits_zero}
use Rattle.device_choice.specs.Orders.{count_in, count_below, IsDrawn, behind, IsNext, Names}
use Rattle.device_choice.specs.declared.order.Order.{Order}
use Rattle.device_choice.specs.declared.order.Order.TheVariants.{Lowest, Highest, Drawn, Round}

-- ---- counting

-- a set has its tags below its length alone
pub place-lt-length : (s : List Bool) (i : ℕ) → has_place s i ≡ true → i < length s
place-lt-length s i here =
    ⊎_elim (λ h. h) (λ h. absurd (both_ways _ (has_place_past s i h) here)) (cases_lt i (length s))

pub count_below_here : (s : List Bool) (i : ℕ) → has_place s i ≡ true → count_below s (i + 1) ≡ count_below s i + 1
count_below_here s i here = count_by_more_yes (λ b. b) s i false (place-lt-length s i here) here

pub count_below_other : (s : List Bool) (i : ℕ) → i < length s → has_place s i ≡ false → count_below s (i + 1) ≡ count_below s i
count_below_other s i h out = count_by_more_no (λ b. b) s i false h out

pub count_below_all : (w : ℕ) → count_below (bits w) 32 ≡ count_in (bits w)
count_below_all w = ap count_in (take_all 32 (bits w) (omega (arith, length-bits w)))

pub count_below_mono : (s : List Bool) (i j : ℕ) → i ≤ j → count_below s i ≤ count_below s j
count_below_mono s i j h =
    let P : ℕ → Type 0 = λ n. n ≤ count_below s j in
    subst P (ap count_in (take-take i j s h)) (sum_by-take-le (λ b. cond b 1 0) (take j s) i)

pub count_in-bits : (w : ℕ) → count_in (bits w) ≤ 32
count_in-bits w = omega (arith, count_by-le-length (λ b. b) (bits w), length-bits w)

-- a set with a tag less
pub count_in-without : (s : List Bool) (tag : ℕ) → has_place s tag ≡ true → count_in (without_place s tag) + 1 ≡ count_in s
unfolding without_place
count_in-without s tag here =
    let one : ◌≡◌ {A = ℕ} (cond (get_or s tag false) 1 0) 1 = ap (λ b. cond b 1 0) here in
    omega (arith, sum_by-set (λ b. cond b 1 0) s tag false false (place-lt-length s tag here), one)

-- a set that has no tag is the empty one
pub count_in_none : (s : List Bool) → length s ≡ 32 → count_in s ≡ 0 → s ≡ no_places
count_in_none s l none =
    same_sets s no_places (l ∙ sym length-no_places)
    (λ i h. ⊎_elim (λ here. let one : ◌≡◌ {A = ℕ} (cond (get_or s i false) 1 0) 1 = ap (λ b. cond b 1 0) here in absurd (omega (arith, get_or-le-sum_by (λ b. cond b 1 0) s i false h, one)))
    (λ out. out ∙ sym (has_place-no_places i)) (cases_Bool (has_place s i)))

-- ---- the ones of a word

word_is : (s : List Bool) → word_of s ≡ mask_l s
unfolding word_of
word_is [] = refl
word_is (b ∷ s) = ap (λ n. cond b 1 0 + 2 * n) (word_is s)

-- `set.count_ones()`
pub count_ones-is : (w : ℕ) → w < 2 ^ 32 → count_ones w ≡ count_in (bits w)
count_ones-is w h =
    ap count_ones (sym (word_of-bits w h) ∙ word_is (bits w) ∙ ap mask_l (sym (map-id (bits w)))) ∙ ones-mask_l (λ b. b) (bits w)

-- a word without a bit
pub none_is_zero : (w : ℕ) → w < 2 ^ 32 → bits w ≡ no_places → w ≡ 0
none_is_zero w h none = same_word w 0 h (omega arith) (none ∙ sym bits_zero)

pub some_ones : (w : ℕ) → 0 < w → 0 < count_ones w
some_ones w h = ⊎_elim (λ e. absurd (omega (arith, zero_from_ones w e))) (λ n. omega arith) (cases_eq (count_ones w) 0)

-- ---- the loop that counts a draw down, over the tags of a word from the lowest on

pub draw_begins : (w draw : ℕ) → w < 2 ^ 32 → draw % count_ones w + count_below (bits w) 0 ≡ draw % count_in (bits w)
draw_begins w draw h = omega (arith, ap (λ n. draw % n) (count_ones-is w h))

pub draw_goes_by : (s : List Bool) (draw below tag : ℕ) → below + count_below s tag ≡ draw % count_in s → has_place s tag ≡ true → 0 < below → below - 1 + count_below s (tag + 1) ≡ draw % count_in s
draw_goes_by s draw below tag so here some = omega (arith, so, count_below_here s tag here)

pub draw_stays : (w draw below tag : ℕ) → below + count_below (bits w) tag ≡ draw % count_in (bits w) → tag < 32 → has_place (bits w) tag ≡ false → below + count_below (bits w) (tag + 1) ≡ draw % count_in (bits w)
draw_stays w draw below tag so h out = ap (λ n. below + n) (count_below_other (bits w) tag (omega (arith, length-bits w)) out) ∙ so

pub draw_falls : (s : List Bool) (draw below tag : ℕ) → below + count_below s tag ≡ draw % count_in s → has_place s tag ≡ true → below ≡ 0 → IsDrawn draw s tag
draw_falls s draw below tag so here none = record { here = here; below = omega (arith, so, none) }

pub draw_has_fallen : (w draw below tag : ℕ) → 0 < w → w < 2 ^ 32 → tag ≡ 32 → below + count_below (bits w) tag ≡ draw % count_in (bits w) → ⊥
draw_has_fallen w draw below tag some h last so =
    let n : 0 < count_in (bits w) = omega (arith, some_ones w some, count_ones-is w h) in
    let all : count_below (bits w) tag ≡ count_in (bits w) = ap (count_below (bits w)) last ∙ count_below_all w in
    omega (arith, so, all, n)

-- ---- the loop that goes round from a draw's place

-- none of the places before a step is in the set
abbrev pub NoneBefore : ℕ → List Bool → ℕ → Type 0
NoneBefore draw s step = (k : ℕ) → k < step → has_place s ((draw % 32 + k) % 32) ≡ false

pub round_goes_by : (draw : ℕ) (s : List Bool) (step tag : ℕ) → NoneBefore draw s step → tag ≡ (draw % 32 + step) % 32 → has_place s tag ≡ false → NoneBefore draw s (step + 1)
round_goes_by draw s step tag before at out k h =
    let P : ℕ → Type 0 = λ i. has_place s i ≡ false in
    ⊎_elim (λ e. subst P (at ∙ ap (λ n. (draw % 32 + n) % 32) (sym e)) out) (λ n. before k (omega arith)) (cases_eq k step)

pub round_comes : (draw : ℕ) (s : List Bool) (step tag : ℕ) → NoneBefore draw s step → tag ≡ (draw % 32 + step) % 32 → step < 32 → has_place s tag ≡ true → IsNext draw s tag
round_comes draw s step tag before at h here = record {
  here = here;
  is_tag = omega arith;
  nearest = λ t low there. let P : ℕ → Type 0 = λ i. has_place s i ≡ false in
      ⊎_elim (λ early. absurd (both_ways _ (subst P (back t low) (before (behind draw t) early)) there)) (λ late. omega arith) (cases_lt (behind draw t) step);
}
  where
    back : (t : ℕ) → t < 32 → (draw % 32 + behind draw t) % 32 ≡ t
    back t low = omega arith

pub round_is_over : (draw w step : ℕ) → NoneBefore draw (bits w) step → step ≡ 32 → bits w ≡ no_places
round_is_over draw w step before last =
    let P : ℕ → Type 0 = λ i. has_place (bits w) i ≡ false in
    same_sets (bits w) no_places (length-bits w ∙ sym length-no_places)
    (λ i h. let low : i < 32 = omega (arith, length-bits w) in
    let e : (draw % 32 + behind draw i) % 32 ≡ i = omega arith in
    subst P e (before (behind draw i) (omega arith)) ∙ sym (has_place-no_places i))

-- ---- what an order names

-- it is in the set
pub names-here : (order : Order) (draw : ℕ) (s : List Bool) (tag : ℕ) → Names order draw s tag → has_place s tag ≡ true
names-here Lowest draw s tag n = n.here
names-here Highest draw s tag n = n.here
names-here Drawn draw s tag n = n.here
names-here Round draw s tag n = n.here

pub names_below_32 : (order : Order) (draw w tag : ℕ) → Names order draw (bits w) tag → tag < 32
names_below_32 order draw w tag n = omega (arith, place-lt-length (bits w) tag (names-here order draw (bits w) tag n), length-bits w)

-- and it is one
not_lower : (order : Order) (draw : ℕ) (s : List Bool) (a b : ℕ) → Names order draw s a → Names order draw s b → a < b → ⊥
not_lower Lowest draw s a b m n h = both_ways _ (n.below a h) m.here
not_lower Highest draw s a b m n h = both_ways _ (m.above b h) n.here
not_lower Drawn draw s a b m n h = omega (arith, m.below, n.below, count_below_here s a m.here, count_below_mono s (a + 1) b (omega arith))
not_lower Round draw s a b m n h = omega (arith, m.is_tag, n.is_tag, m.nearest b n.is_tag n.here, n.nearest a m.is_tag m.here)

pub names_one : (order : Order) (draw : ℕ) (s : List Bool) (a b : ℕ) → Names order draw s a → Names order draw s b → a ≡ b
names_one order draw s a b m n =
    ⊎_elim (λ e. e) (λ o. absurd (⊎_elim (λ h. not_lower order draw s a b m n h) (λ h. not_lower order draw s b a n m h) o)) (cases_order a b)
