-- The partition when one view changes, when a view comes, and when two are joined.
use Rattle.std.proofs.Common.{◌≡◌, ◌≢◌, ℕ, zero, suc, ◌+◌, ◌^◌, ◌<◌, ◌≤◌, true, false, List, [], ◌∷◌, ◌++◌, length, set, sym, ◌∙◌, ap, ⊎_elim, arith}
use mathlib.Core.Option.{some, some-injective, some-ne-none}
use lib.ListN.{get_elem?}
use Rattle.std.proofs.lemmas.Bool.{cases_lt}
use Rattle.word_bits.specs.Places.{bits, has_place, no_places, only_below, all_places}
use Rattle.word_bits.proofs.PlacesLemmas.{has_place-no_places, has_place-all_places, has_place-only_below, has_place-only_below_past}
use Rattle.atomic_table.proofs.Lists.{set_else}
use Rattle.tag_board.specs.declared.view.View.{View}
use Rattle.tag_board.specs.View.{blank, spent, joined}
use Rattle.tag_board.specs.Partition.{once, holders, IsPartition, Stands}
use Rattle.tag_board.proofs.SetLemmas.{once-true, once-false, has_not, once-union}

pub at-lt : (views : List View) (id : ℕ) (v : View) → get_elem? views id ≡ some v → id < length views
at-lt [] id v at = absurd (some-ne-none v (sym at))
at-lt (x ∷ views) zero v at = omega arith
at-lt (x ∷ views) (suc id) v at = let h = at-lt views id v at in omega arith

-- what a change of one view does to the count of a tag
pub holders-set : (views : List View) (id : ℕ) (v w : View) (t : ℕ) → get_elem? views id ≡ some v → holders (set views id w) t + once v.tags t ≡ holders views t + once w.tags t
holders-set [] id v w t at = absurd (some-ne-none v (sym at))
holders-set (x ∷ views) zero v w t at =
    let e : once x.tags t ≡ once v.tags t = ap (λ (u : View). once u.tags t) (some-injective x v at) in
    omega arith
holders-set (x ∷ views) (suc id) v w t at = let h = holders-set views id v w t at in omega arith

pub holders-at : (views : List View) (id : ℕ) (v : View) (t : ℕ) → get_elem? views id ≡ some v → once v.tags t ≤ holders views t
holders-at [] id v t at = absurd (some-ne-none v (sym at))
holders-at (x ∷ views) zero v t at =
    let e : once x.tags t ≡ once v.tags t = ap (λ (u : View). once u.tags t) (some-injective x v at) in
    omega arith
holders-at (x ∷ views) (suc id) v t at = let h = holders-at views id v t at in omega arith

pub holders-more : (views : List View) (w : View) (t : ℕ) → holders (views ++ w ∷ []) t ≡ holders views t + once w.tags t
holders-more [] w t = omega arith
holders-more (x ∷ views) w t = let h = holders-more views w t in omega arith

-- two views at different places have no tag in common
pub two-at : (views : List View) (id other : ℕ) (v w : View) (t : ℕ) → other ≢ id → get_elem? views id ≡ some v → get_elem? views other ≡ some w
    → once v.tags t + once w.tags t ≤ holders views t
two-at views id other v w t apart at at' =
    let left = set views id spent in
    let there : get_elem? left other ≡ some w = set_else views id other spent apart ∙ at' in
    let few = holders-at left other w t there in
    let gone = holders-set views id v spent t at in
    let none = once-false no_places t (has_place-no_places t) in
    omega arith

-- a tag is at most once
pub at_most_once : (d word : ℕ) (views : List View) (t : ℕ) → IsPartition d word views → once (bits word) t + holders views t ≤ 1
at_most_once d word views t p =
    ⊎_elim (λ (h : t < d). let e = p.below t h in omega arith) (λ (h : d ≤ t). let e = p.past t h in omega arith) (cases_lt t d)

-- the word and one view change so that each tag is as often as before
pub moved : (d word left : ℕ) (views : List View) (id : ℕ) (v w : View) → IsPartition d word views → get_elem? views id ≡ some v → left < 2 ^ 32
    → ((t : ℕ) → once (bits left) t + once w.tags t ≡ once (bits word) t + once v.tags t) → IsPartition d left (set views id w)
moved d word left views id v w p at fits same = record {
  below = λ t h. let a = same t in let b = holders-set views id v w t at in let e = p.below t h in omega arith;
  past = λ t h. let a = same t in let b = holders-set views id v w t at in let e = p.past t h in omega arith;
  fits = fits;
}

-- a view with no tags comes
pub comes : (d word : ℕ) (views : List View) (depth : ℕ) → IsPartition d word views → IsPartition d word (views ++ blank depth ∷ [])
comes d word views depth p = record {
  below = λ t h. let a = holders-more views (blank depth) t in let n = once-false no_places t (has_place-no_places t) in let e = p.below t h in omega arith;
  past = λ t h. let a = holders-more views (blank depth) t in let n = once-false no_places t (has_place-no_places t) in let e = p.past t h in omega arith;
  fits = p.fits;
}

-- two views are joined
holders-joined : (d word : ℕ) (views : List View) (id other : ℕ) (v w : View) (t : ℕ) → IsPartition d word views → get_elem? views id ≡ some v → other ≢ id
    → get_elem? (set views id (joined v w)) other ≡ some w → holders (set (set views id (joined v w)) other spent) t ≡ holders views t
holders-joined d word views id other v w t p at apart at' =
    let both = joined v w in
    let there : get_elem? views other ≡ some w = sym (set_else views id other both apart) ∙ at' in
    let two = two-at views id other v w t apart at there in
    let few = at_most_once d word views t p in
    let l : once v.tags t + once w.tags t ≤ 1 = omega arith in
    let u = once-union v.tags w.tags t l in
    let a = holders-set views id v both t at in
    let b = holders-set (set views id both) other w spent t at' in
    let none = once-false no_places t (has_place-no_places t) in
    omega arith

pub joins_views : (d word : ℕ) (views : List View) (id other : ℕ) (v w : View) → IsPartition d word views → get_elem? views id ≡ some v → other ≢ id
    → get_elem? (set views id (joined v w)) other ≡ some w → IsPartition d word (set (set views id (joined v w)) other spent)
joins_views d word views id other v w p at apart at' = record {
  below = λ t h. let a = holders-joined d word views id other v w t p at apart at' in let e = p.below t h in omega arith;
  past = λ t h. let a = holders-joined d word views id other v w t p at apart at' in let e = p.past t h in omega arith;
  fits = p.fits;
}

-- the first view, and the word of all tags
pub opens : (d word : ℕ) → d ≤ 32 → word < 2 ^ 32 → bits word ≡ only_below d all_places → IsPartition d word (blank d ∷ [])
opens d word l fits e = record {
  below = λ t h.
      let n = once-false no_places t (has_place-no_places t) in
      let f = once-true (bits word) t (ap (λ s. has_place s t) e ∙ (has_place-only_below d all_places t h ∙ has_place-all_places t (omega arith))) in
      omega arith;
  past = λ t h.
      let n = once-false no_places t (has_place-no_places t) in
      let f = once-false (bits word) t (ap (λ s. has_place s t) e ∙ has_place-only_below_past d all_places t h) in
      omega arith;
  fits = fits;
}

-- ---- what a view knows of the word that it goes with

pub stands_apart : (word : ℕ) (v : View) (t : ℕ) → Stands word v → has_place v.tags t ≡ true → has_place (bits word) t ≡ false
stands_apart word v t s e =
    let a = holders-at s.views s.place v t s.own in
    let b = at_most_once v.depth word s.views t s.partition in
    let h = once-true v.tags t e in
    has_not (bits word) t (omega arith)

pub stands_below : (word : ℕ) (v : View) (t : ℕ) → Stands word v → v.depth ≤ t → has_place (bits word) t ≡ false
stands_below word v t s h = let e = s.partition.past t h in has_not (bits word) t (omega arith)
