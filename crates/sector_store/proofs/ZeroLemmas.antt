-- Sectors and pages that are zeros.
use Rattle.std.proofs.Common.{◌≡◌, ℕ, ◌+◌, ◌-◌, ◌*◌, ◌/◌, ◌%◌, ◌<◌, ◌≤◌, Bool, true, false, List, length, replicate, take, Option, None, Some, ap, sym, ◌∙◌, arith, inl, inr, ◌⊎◌, cond, ◌||◌, leb, ltb, eqb, refl}
use Rattle.std.proofs.lemmas.Bool.{cases_lt, cases_eq, cond-true, cond-false, and_from, and_left, and_right, le-leb, lt-leb, lt-ltb, le-ltb, eq-eqb, ne_eqb, or_left, or_right, true≢false, false_from_ne_true}
use Rattle.std.proofs.lemmas.List.{drop-replicate, take-replicate, length-replicate}
use borrow.Rule.Slice.PartMut.{put_mid}
use Rattle.ncq_journal.specs.Image.{IsZeroedOver, is_within, sector_at, zero_sector}
use Rattle.ncq_journal.proofs.ImageLemmas.{sector_at-put_mid}
use Rattle.sector_store.specs.Blank.{IsBlank, AreClearable, AreMarkable, IsCleared}
use Rattle.sector_store.specs.Layers.{Layers, page_now, zero_page}
use Rattle.sector_store.specs.Slots.{layers_of}
use Rattle.sector_store.specs.Shown.{sector_over, sector_now, joined, is_held, is_touched, is_writable, ChangesAt, IsWrittenAt, ShowSame}
use Rattle.sector_store.proofs.ChangeLemmas.{kept_dropped, length-zero_page}
use Rattle.sector_store.proofs.ShownLemmas.{AreSectors, length-joined, sector_at-joined, sector_at-past}

-- a part of so many zeros is zeros
zeros_at : (n s : ℕ) → 512 * s + 512 ≤ n → sector_at (replicate n 0) s ≡ zero_sector
unfolding zero_sector
zeros_at n s fits = ap (take 512) (drop-replicate {X = ℕ} (512 * s) n 0) ∙ take-replicate {X = ℕ} 512 (n - 512 * s) 0 (omega arith)

-- a sector of a page of zeros
pub sector_at-zero_page : (place : ℕ) → place < 8 → sector_at zero_page place ≡ zero_sector
unfolding zero_page
sector_at-zero_page place below = zeros_at 4096 place (omega arith)

pub zeros_are_whole : length zero_page ≡ 4096
zeros_are_whole = length-zero_page

-- which sectors are within a range
pub within_in : (lba n s : ℕ) → lba ≤ s → s < lba + n → is_within lba n s ≡ true
within_in lba n s from to = and_from (leb lba s) (ltb s (lba + n)) (le-leb lba s from) (lt-ltb s (lba + n) to)

pub within_below : (lba n s : ℕ) → s < lba → is_within lba n s ≡ false
within_below lba n s below = and_left (leb lba s) (ltb s (lba + n)) (lt-leb lba s below)

pub within_above : (lba n s : ℕ) → lba + n ≤ s → is_within lba n s ≡ false
within_above lba n s above = and_right (leb lba s) (ltb s (lba + n)) (le-ltb s (lba + n) above)

pub within_from : (lba n s : ℕ) → is_within lba n s ≡ true → lba ≤ s
within_from lba n s is =
    elim (cases_lt s lba) [
      | inl below ↦ absurd (true≢false (sym is ∙ within_below lba n s below))
      | inr from ↦ from
    ]

pub within_to : (lba n s : ℕ) → is_within lba n s ≡ true → s < lba + n
within_to lba n s is =
    elim (cases_lt s (lba + n)) [
      | inl to ↦ to
      | inr above ↦ absurd (true≢false (sym is ∙ within_above lba n s above))
    ]

-- each sector once whole sectors of an image were made zeros
pub zeroed-put_mid : (lba n k : ℕ) (xs ys : List ℕ) → k ≡ 512 * n → ys ≡ replicate (512 * n) 0 → lba * 512 + k ≤ length xs → IsZeroedOver lba n xs (put_mid (lba * 512) k xs ys)
zeroed-put_mid lba n k xs ys part zeros fits s =
    let len : length ys ≡ 512 * n = ap length zeros ∙ length-replicate {A = ℕ} (512 * n) 0 in
    sector_at-put_mid lba n k xs ys part len fits s ∙ zero
  where
    zero : cond (is_within lba n s) (sector_at ys (s - lba)) (sector_at xs s) ≡ cond (is_within lba n s) zero_sector (sector_at xs s)
    zero =
        elim (cases_lt s lba) [
          | inl below ↦ out (within_below lba n s below)
          | inr from ↦ elim (cases_lt s (lba + n)) [
            | inl to ↦ ap (λ z. cond (is_within lba n s) z (sector_at xs s)) (ap (λ l. sector_at l (s - lba)) zeros ∙ zeros_at (512 * n) (s - lba) (omega arith))
            | inr above ↦ out (within_above lba n s above)
          ]
        ]
      where
        out : is_within lba n s ≡ false → cond (is_within lba n s) (sector_at ys (s - lba)) (sector_at xs s) ≡ cond (is_within lba n s) zero_sector (sector_at xs s)
        out is = cond-false (is_within lba n s) (sector_at ys (s - lba)) (sector_at xs s) is ∙ sym (cond-false (is_within lba n s) zero_sector (sector_at xs s) is)

-- an image once some of its sectors are zeros
pub zeroed-joined : (f g : ℕ → List ℕ) (n lba k : ℕ) → AreSectors f → AreSectors g → lba + k ≤ n → ((s : ℕ) → g s ≡ cond (is_within lba k s) zero_sector (f s))
    → IsZeroedOver lba k (joined f n) (joined g n)
zeroed-joined f g n lba k size size' fits each s =
    elim (cases_lt s n) [
      | inl inside ↦ sector_at-joined g n s size' inside ∙ each s ∙ ap (cond (is_within lba k s) zero_sector) (sym (sector_at-joined f n s size inside))
      | inr past ↦
          sector_at-past (joined g n) s (omega (arith, length-joined g n size'))
          ∙ sym (sector_at-past (joined f n) s (omega (arith, length-joined f n size)))
          ∙ sym (cond-false (is_within lba k s) zero_sector (sector_at (joined f n) s) (within_above lba k s (omega arith)))
    ]

-- a page with a mark is zeros
pub blank_marked : (below : ℕ → List ℕ) (slots : ℕ → Option Layers) (number : ℕ) → page_now (layers_of (slots number)) ≡ Some zero_page → IsBlank (sector_now below slots) number
blank_marked below slots number is s same =
    ap (λ q. sector_over (page_now (layers_of (slots q))) (below s) s) same
    ∙ ap (λ o. sector_over o (below s) s) is
    ∙ sector_at-zero_page (s % 8) (omega arith)

-- a page that isn't there is zeros if what is below it is
pub blank_below : (below : ℕ → List ℕ) (slots : ℕ → Option Layers) (number : ℕ) → page_now (layers_of (slots number)) ≡ None → ((s : ℕ) → number * 8 ≤ s → below s ≡ zero_sector)
    → IsBlank (sector_now below slots) number
blank_below below slots number none zeros s same =
    ap (λ q. sector_over (page_now (layers_of (slots q))) (below s) s) same
    ∙ ap (λ o. sector_over o (below s) s) none
    ∙ zeros s (omega arith)

-- what the sectors of a part of one page need
pub clearable_none : (below : ℕ → List ℕ) (lba n : ℕ) (slots : ℕ → Option Layers) → n ≡ 0 → AreClearable below (is_within lba n) slots
clearable_none below lba n slots none s is =
    let from : lba ≤ s = within_from lba n s is in
    let to : s < lba + n = within_to lba n s is in
    absurd (omega arith)

page_of_part : (lba n s : ℕ) → lba + n ≤ 8 * (lba / 8) + 8 → is_within lba n s ≡ true → s / 8 ≡ lba / 8
page_of_part lba n s one is =
    let from : lba ≤ s = within_from lba n s is in
    let to : s < lba + n = within_to lba n s is in
    omega arith

pub clearable_blank : (below : ℕ → List ℕ) (lba n : ℕ) (slots : ℕ → Option Layers) → lba + n ≤ 8 * (lba / 8) + 8 → IsBlank (sector_now below slots) (lba / 8)
    → AreClearable below (is_within lba n) slots
clearable_blank below lba n slots one blank s is = inr (blank s (page_of_part lba n s one is))

pub clearable_held : (below : ℕ → List ℕ) (lba n : ℕ) (slots : ℕ → Option Layers) → lba + n ≤ 8 * (lba / 8) + 8 → is_held slots (lba / 8) ≡ true → AreClearable below (is_within lba n) slots
clearable_held below lba n slots one held s is = inl (ap (is_held slots) (page_of_part lba n s one is) ∙ held)

-- what they need stays when all sectors show the same, or some became zeros
pub clearable_same : (below : ℕ → List ℕ) (inside : ℕ → Bool) (old new : ℕ → Option Layers) → AreClearable below inside old → ShowSame below old new → AreClearable below inside new
clearable_same below inside old new clearable same s is =
    elim (clearable s is) [
      | inl held ↦ inl (same.stay (s / 8) held)
      | inr zero ↦ inr (same.now s ∙ zero)
    ]

pub clearable_cleared : (below : ℕ → List ℕ) (inside cleared : ℕ → Bool) (old new : ℕ → Option Layers) → AreClearable below inside old → IsCleared below cleared old new
    → AreClearable below inside new
clearable_cleared below inside cleared old new clearable is s within = by_test (cleared s) refl
  where
    by_test : (t : Bool) → cleared s ≡ t → (is_writable new s ≡ true) ⊎ (sector_now below new s ≡ zero_sector)
    by_test true holds = inr (is.now s ∙ cond-true (cleared s) zero_sector (sector_now below old s) holds)
    by_test false fails =
        elim (clearable s within) [
          | inl held ↦ inl (is.stay s fails held)
          | inr zero ↦ inr (is.now s ∙ cond-false (cleared s) zero_sector (sector_now below old s) fails ∙ zero)
        ]

-- the k-th of them
pub clearable_one : (below : ℕ → List ℕ) (lba n k : ℕ) (slots : ℕ → Option Layers) → k < n → AreClearable below (is_within lba n) slots → AreClearable below (is_within (lba + k) 1) slots
clearable_one below lba n k slots fits clearable s is =
    let from : lba + k ≤ s = within_from (lba + k) 1 s is in
    let to : s < lba + k + 1 = within_to (lba + k) 1 s is in
    clearable s (within_in lba n s (omega arith) (omega arith))

-- what pages need, of which one more can have a mark
pub markable_none : (below : ℕ → List ℕ) (first : ℕ) (slots : ℕ → Option Layers) → AreMarkable below first first slots
markable_none below first slots q from to = absurd (omega arith)

pub markable_blank : (below : ℕ → List ℕ) (number : ℕ) (slots : ℕ → Option Layers) → IsBlank (sector_now below slots) number → AreMarkable below number (number + 1) slots
markable_blank below number slots blank q from to =
    let same : q ≡ number = omega arith in
    inr (λ s is. blank s (is ∙ same))

pub markable_touched : (below : ℕ → List ℕ) (number : ℕ) (slots : ℕ → Option Layers) → is_touched slots number ≡ true → AreMarkable below number (number + 1) slots
markable_touched below number slots touched q from to =
    let same : q ≡ number = omega arith in
    inl (ap (is_touched slots) same ∙ touched)

pub markable_more : (below : ℕ → List ℕ) (first number : ℕ) (old new : ℕ → Option Layers) → AreMarkable below first number old → ShowSame below old new → AreMarkable below number (number + 1) new
    → AreMarkable below first (number + 1) new
markable_more below first number old new before same one q from to =
    elim (cases_lt q number) [
      | inl earlier ↦ elim (before q from earlier) [
        | inl touched ↦ inl (same.listed q touched)
        | inr blank ↦ inr (λ s is. same.now s ∙ blank s is)
      ]
      | inr last ↦ one q last to
    ]

-- one of them, once sectors became zeros and the list is the same
pub markable_one : (below : ℕ → List ℕ) (cleared : ℕ → Bool) (first end number : ℕ) (old new : ℕ → Option Layers) → first ≤ number → number < end → AreMarkable below first end old
    → IsCleared below cleared old new → ((q : ℕ) → is_touched new q ≡ is_touched old q) → AreMarkable below number (number + 1) new
markable_one below cleared first end number old new from to markable is listed q low high =
    elim (markable q (omega arith) (omega arith)) [
      | inl touched ↦ inl (listed q ∙ touched)
      | inr blank ↦ inr (λ s page. is.now s ∙ zero (cleared s) (sector_now below old s) (blank s page))
    ]
  where
    zero : (t : Bool) (x : List ℕ) → x ≡ zero_sector → cond t zero_sector x ≡ zero_sector
    zero true x is = refl
    zero false x is = is

-- nothing has changed, since these sectors were zeros
pub cleared_already : (below : ℕ → List ℕ) (inside : ℕ → Bool) (slots : ℕ → Option Layers) → ((s : ℕ) → inside s ≡ true → sector_now below slots s ≡ zero_sector) → IsCleared below inside slots slots
cleared_already below inside slots zeros = record { now = λ s. sym (same s (inside s) refl); kept = λ s. refl; stay = λ s out was. was }
  where
    same : (s : ℕ) (t : Bool) → inside s ≡ t → cond (inside s) zero_sector (sector_now below slots s) ≡ sector_now below slots s
    same s true holds = cond-true (inside s) zero_sector (sector_now below slots s) holds ∙ sym (zeros s holds)
    same s false fails = cond-false (inside s) zero_sector (sector_now below slots s) fails

-- one sector that can't be written was zeros
pub cleared_unheld : (below : ℕ → List ℕ) (lba : ℕ) (slots : ℕ → Option Layers) → is_held slots (lba / 8) ≡ false → AreClearable below (is_within lba 1) slots
    → IsCleared below (is_within lba 1) slots slots
cleared_unheld below lba slots free clearable = cleared_already below (is_within lba 1) slots (λ s is. zero s is (clearable s is))
  where
    zero : (s : ℕ) → is_within lba 1 s ≡ true → (is_writable slots s ≡ true) ⊎ (sector_now below slots s ≡ zero_sector) → sector_now below slots s ≡ zero_sector
    zero s is either =
        let from : lba ≤ s = within_from lba 1 s is in
        let to : s < lba + 1 = within_to lba 1 s is in
        let page : s / 8 ≡ lba / 8 = omega arith in
        elim either [
          | inl held ↦ absurd (true≢false (sym held ∙ ap (is_held slots) page ∙ free))
          | inr is_zero ↦ is_zero
        ]

-- one sector was written
pub cleared_sector : (below : ℕ → List ℕ) (lba : ℕ) (sector : List ℕ) (old new : ℕ → Option Layers) → sector ≡ zero_sector → IsWrittenAt lba sector old new → IsCleared below (is_within lba 1) old new
cleared_sector below lba sector old new zero is = record {
  now = λ s. is.now below s ∙ ap (λ z. cond (eqb s lba) z (sector_now below old s)) zero ∙ ap (λ t. cond t zero_sector (sector_now below old s)) (test s);
  kept = is.kept below;
  stay = λ s out was. is.stay (s / 8) was;
}
  where
    test : (s : ℕ) → eqb s lba ≡ is_within lba 1 s
    test s =
        elim (cases_eq s lba) [
          | inl same ↦ eq-eqb s lba same ∙ sym (within_in lba 1 s (omega arith) (omega arith))
          | inr other ↦ ne_eqb s lba other ∙ elim (cases_lt s lba) [
            | inl below ↦ sym (within_below lba 1 s below)
            | inr from ↦ sym (within_above lba 1 s (omega arith))
          ]
        ]

-- a page that isn't in the list was zeros
pub cleared_unlisted : (below : ℕ → List ℕ) (number : ℕ) (slots : ℕ → Option Layers) → is_touched slots number ≡ false → AreMarkable below number (number + 1) slots
    → IsCleared below (is_within (8 * number) 8) slots slots
cleared_unlisted below number slots free markable =
    cleared_already below (is_within (8 * number) 8) slots (λ s is. zero s is (markable number (omega arith) (omega arith)))
  where
    zero : (s : ℕ) → is_within (8 * number) 8 s ≡ true → (is_touched slots number ≡ true) ⊎ (IsBlank (sector_now below slots) number) → sector_now below slots s ≡ zero_sector
    zero s is either =
        let from : 8 * number ≤ s = within_from (8 * number) 8 s is in
        let to : s < 8 * number + 8 = within_to (8 * number) 8 s is in
        elim either [
          | inl listed ↦ absurd (true≢false (sym listed ∙ free))
          | inr blank ↦ blank s (omega arith)
        ]

-- a page has a mark
pub cleared_page : (below : ℕ → List ℕ) (number : ℕ) (old new : ℕ → Option Layers) → ChangesAt number old new
    → layers_of (new number) ≡ record (layers_of (old number)) { upper = Some zero_page; held = false; touched = true } → IsCleared below (is_within (8 * number) 8) old new
cleared_page below number old new changes is = record {
  now = λ s. elim (cases_eq (s / 8) number) [
    | inl same ↦ inside s same
    | inr other ↦
        ap (λ o. sector_over (page_now (layers_of o)) (below s) s) (changes.others (s / 8) other)
        ∙ sym (cond-false (is_within (8 * number) 8 s) zero_sector (sector_now below old s) (outside s other))
  ];
  kept = kept_dropped below number old new changes (ap (λ (l : Layers). l.lower) is);
  stay = λ s out was. elim (cases_eq (s / 8) number) [
    | inl same ↦
        let from : 8 * number ≤ s = omega arith in
        let to : s < 8 * number + 8 = omega arith in
        absurd (true≢false (sym (within_in (8 * number) 8 s from to) ∙ out))
    | inr other ↦ ap (λ o. (layers_of o).held) (changes.others (s / 8) other) ∙ was
  ];
}
  where
    outside : (s : ℕ) → (s / 8 ≡ number → ⊥) → is_within (8 * number) 8 s ≡ false
    outside s other =
        elim (cases_lt s (8 * number)) [
          | inl less ↦ within_below (8 * number) 8 s less
          | inr from ↦ elim (cases_lt s (8 * number + 8)) [
            | inl to ↦ absurd (other (let e : s / 8 ≡ number = omega arith in e))
            | inr above ↦ within_above (8 * number) 8 s above
          ]
        ]

    inside : (s : ℕ) → s / 8 ≡ number → sector_now below new s ≡ cond (is_within (8 * number) 8 s) zero_sector (sector_now below old s)
    inside s same =
        ap (λ q. sector_over (page_now (layers_of (new q))) (below s) s) same
        ∙ ap (λ (l : Layers). sector_over (page_now l) (below s) s) is
        ∙ sector_at-zero_page (s % 8) (omega arith)
        ∙ sym (cond-true (is_within (8 * number) 8 s) zero_sector (sector_now below old s) (within_in (8 * number) 8 s (omega arith) (omega arith)))

-- sectors became zeros, and then others
cleared_both : (below : ℕ → List ℕ) (f g h : ℕ → Bool) (a b c : ℕ → Option Layers) → ((s : ℕ) → h s ≡ (f s || g s)) → IsCleared below f a b → IsCleared below g b c → IsCleared below h a c
cleared_both below f g h a b c same first then = record {
  now = λ s. then.now s ∙ ap (cond (g s) zero_sector) (first.now s) ∙ both (f s) (g s) (sector_now below a s) ∙ ap (λ t. cond t zero_sector (sector_now below a s)) (sym (same s));
  kept = λ s. then.kept s ∙ first.kept s;
  stay = λ s out was. then.stay s (right s out) (first.stay s (left s out) was);
}
  where
    both : (x y : Bool) (z : List ℕ) → cond y zero_sector (cond x zero_sector z) ≡ cond (x || y) zero_sector z
    both true true z = refl
    both true false z = refl
    both false true z = refl
    both false false z = refl

    left : (s : ℕ) → h s ≡ false → f s ≡ false
    left s out = false_from_ne_true (f s) (λ is. true≢false (sym (same s ∙ or_left (f s) (g s) is) ∙ out))

    right : (s : ℕ) → h s ≡ false → g s ≡ false
    right s out = false_from_ne_true (g s) (λ is. true≢false (sym (same s ∙ or_right (f s) (g s) is) ∙ out))

-- two ranges that make one
within_both : (lba n from m from' m' s : ℕ) → (lba ≤ s → s < lba + n → (((from ≤ s) × (s < from + m)) ⊎ ((from' ≤ s) × (s < from' + m'))))
    → (from ≤ s → s < from + m → (lba ≤ s) × (s < lba + n)) → (from' ≤ s → s < from' + m' → (lba ≤ s) × (s < lba + n)) → is_within lba n s ≡ (is_within from m s || is_within from' m' s)
within_both lba n from m from' m' s parts first second = by (is_within lba n s) refl
  where
    by : (t : Bool) → is_within lba n s ≡ t → is_within lba n s ≡ (is_within from m s || is_within from' m' s)
    by true is =
        elim (parts (within_from lba n s is) (within_to lba n s is)) [
          | inl one ↦ is ∙ sym (or_left (is_within from m s) (is_within from' m' s) (within_in from m s one.0 one.1))
          | inr other ↦ is ∙ sym (or_right (is_within from m s) (is_within from' m' s) (within_in from' m' s other.0 other.1))
        ]
    by false out =
        let not_one : is_within from m s ≡ false = false_from_ne_true (is_within from m s) (λ is.
        let there = first (within_from from m s is) (within_to from m s is) in true≢false (sym (within_in lba n s there.0 there.1) ∙ out)) in
        let not_other : is_within from' m' s ≡ false = false_from_ne_true (is_within from' m' s) (λ is.
        let there = second (within_from from' m' s is) (within_to from' m' s is) in true≢false (sym (within_in lba n s there.0 there.1) ∙ out)) in
        out ∙ sym (ap (λ x. x || is_within from' m' s) not_one ∙ not_other)

-- no sector, and so many more
pub cleared_none : (below : ℕ → List ℕ) (lba n : ℕ) (slots : ℕ → Option Layers) → n ≡ 0 → IsCleared below (is_within lba n) slots slots
cleared_none below lba n slots none = cleared_already below (is_within lba n) slots (λ s is.
    let from : lba ≤ s = within_from lba n s is in
    let to : s < lba + n = within_to lba n s is in
    absurd (omega arith))

pub cleared_more : (below : ℕ → List ℕ) (lba n from m k : ℕ) (a b c : ℕ → Option Layers) → from ≡ lba + n → k ≡ n + m → IsCleared below (is_within lba n) a b → IsCleared below (is_within from m) b c
    → IsCleared below (is_within lba k) a c
cleared_more below lba n from m k a b c next sum first then =
    cleared_both below (is_within lba n) (is_within from m) (is_within lba k) a b c (λ s. within_both lba k lba n from m s (parts s) (λ l h. (l, omega arith)) (λ l h. (omega arith, omega arith))) first then
  where
    parts : (s : ℕ) → lba ≤ s → s < lba + k → (((lba ≤ s) × (s < lba + n)) ⊎ ((from ≤ s) × (s < from + m)))
    parts s low high =
        elim (cases_lt s (lba + n)) [
          | inl early ↦ inl (low, early)
          | inr late ↦ inr (omega arith, omega arith)
        ]

-- nothing showed a change before sectors became zeros
pub cleared_behind : (below : ℕ → List ℕ) (inside : ℕ → Bool) (a b c : ℕ → Option Layers) → ShowSame below a b → IsCleared below inside b c → IsCleared below inside a c
cleared_behind below inside a b c same is = record {
  now = λ s. is.now s ∙ ap (cond (inside s) zero_sector) (same.now s);
  kept = λ s. is.kept s ∙ same.kept s;
  stay = λ s out was. is.stay s out (same.stay (s / 8) was);
}

-- the whole pages in the middle first, then what is before them and after them
pub cleared_three : (below : ℕ → List ℕ) (lba n front back : ℕ) (b c d e : ℕ → Option Layers) → lba ≤ front → front ≤ back → back ≤ lba + n
    → ((8 * (front / 8) ≡ front) ⊎ (front ≡ lba + n)) → ((8 * (back / 8) ≡ back) ⊎ (back ≡ front))
    → IsCleared below (is_within (8 * (front / 8)) (8 * (back / 8 - front / 8))) b c → IsCleared below (is_within lba (front - lba)) c d → IsCleared below (is_within back (lba + n - back)) d e
    → IsCleared below (is_within lba n) b e
cleared_three below lba n front back b c d e low order high whole whole' middle first last =
    cleared_both below (is_within lba (back - lba)) (is_within back (lba + n - back)) (is_within lba n) b d e
    (λ s. within_both lba n lba (back - lba) back (lba + n - back) s (ends s) (λ l h. (l, omega arith)) (λ l h. (omega arith, omega arith)))
    (cleared_both below (is_within (8 * (front / 8)) (8 * (back / 8 - front / 8))) (is_within lba (front - lba)) (is_within lba (back - lba)) b c d
    (λ s. within_both lba (back - lba) (8 * (front / 8)) (8 * (back / 8 - front / 8)) lba (front - lba) s (parts s) (pages s) (λ l h. (l, omega arith))) middle first) last
  where
    ends : (s : ℕ) → lba ≤ s → s < lba + n → (((lba ≤ s) × (s < lba + (back - lba))) ⊎ ((back ≤ s) × (s < back + (lba + n - back))))
    ends s from to =
        elim (cases_lt s back) [
          | inl early ↦ inl (from, omega arith)
          | inr late ↦ inr (late, omega arith)
        ]

    parts : (s : ℕ) → lba ≤ s → s < lba + (back - lba) → (((8 * (front / 8) ≤ s) × (s < 8 * (front / 8) + 8 * (back / 8 - front / 8))) ⊎ ((lba ≤ s) × (s < lba + (front - lba))))
    parts s from to =
        elim (cases_lt s front) [
          | inl early ↦ inr (from, omega arith)
          | inr late ↦ elim whole' [
            | inl aligned ↦ inl (omega arith, omega arith)
            | inr none ↦ absurd (omega arith)
          ]
        ]

    pages : (s : ℕ) → 8 * (front / 8) ≤ s → s < 8 * (front / 8) + 8 * (back / 8 - front / 8) → (lba ≤ s) × (s < lba + (back - lba))
    pages s from to =
        elim whole [
          | inl aligned ↦ (omega arith, omega arith)
          | inr at_end ↦ absurd (let same : front ≡ back = omega arith in let none : back / 8 - front / 8 ≡ 0 = omega arith in omega arith)
        ]
