-- Where one tag is, read off the counts of a partition.
use Rattle.std.proofs.Common.{◌≡◌, ℕ, zero, suc, ◌+◌, ◌≤◌, inl, inr, ⊎_elim, true, false, List, [], ◌∷◌, ◌∙◌, refl, ap, subst, arith}
use mathlib.Core.Option.{some}
use lib.ListN.{get_elem?}
use Rattle.word_bits.specs.Places.{bits, has_place}
use Rattle.tag_board.specs.declared.finding.Finding.{Finding}
use Rattle.tag_board.specs.declared.finding.Finding.TheVariants.{Tried}
use Rattle.tag_board.specs.declared.view.View.{View}
use Rattle.tag_board.specs.View.{missed}
use Rattle.tag_board.specs.Partition.{once, holders}
use Rattle.tag_board.specs.Laws.{InNoView, IsHeldAt, FreeOrHeldOnce, NoneFromDepth, HeldAlone, FreeInNoView, EachTried, TriedOnce, TakenIsHeld}
use Rattle.tag_board.proofs.SetLemmas.{once-true, once-false, has_not, true_or_false}
use Rattle.tag_board.proofs.PartitionLemmas.{holders-at, two-at, at_most_once}

in_no_view : (views : List View) (t : ℕ) → holders views t ≡ 0 → InNoView views t
in_no_view views t none place v at = let h = holders-at views place v t at in has_not v.tags t (omega arith)

-- where a tag is counted once, some view has it
holder : (views : List View) (t : ℕ) → holders views t ≡ 1 → (place : ℕ) × (v : View) × (get_elem? views place ≡ some v) × (has_place v.tags t ≡ true)
holder [] t e = absurd (omega arith)
holder (x ∷ views) t e =
    ⊎_elim (λ q. (zero, x, refl, q))
    (λ (q : has_place x.tags t ≡ false).
    let none = once-false x.tags t q in
    let h = holder views t (omega arith) in
    (suc h.0, h.1, h.2, h.3))
    (true_or_false (has_place x.tags t))

held_at : (word : ℕ) (views : List View) (t place : ℕ) (v : View) → once (bits word) t + holders views t ≤ 1 → get_elem? views place ≡ some v
    → has_place v.tags t ≡ true → IsHeldAt word views t place
held_at word views t place v few at has =
    let one = once-true v.tags t has in
    let h = holders-at views place v t at in
    record {
      taken = has_not (bits word) t (omega arith);
      own = (v, at, has);
      others = λ other w apart at'. let two = two-at views place other v w t apart at at' in has_not w.tags t (omega arith);
    }

pub free_or_held_once : FreeOrHeldOnce
free_or_held_once depth word views t p b =
    let e = p.below t b in
    ⊎_elim
    (λ (q : has_place (bits word) t ≡ true).
    let one = once-true (bits word) t q in
    inl (record { here = q; nowhere = in_no_view views t (omega arith) }))
    (λ (q : has_place (bits word) t ≡ false).
    let none = once-false (bits word) t q in
    let h = holder views t (omega arith) in
    inr (h.0, held_at word views t h.0 h.1 (omega arith) h.2 h.3))
    (true_or_false (has_place (bits word) t))

pub none_from_depth : NoneFromDepth
none_from_depth depth word views t p b = let e = p.past t b in (has_not (bits word) t (omega arith), in_no_view views t (omega arith))

pub held_alone : HeldAlone
held_alone word v t s has = held_at word s.views t s.place v (at_most_once v.depth word s.views t s.partition) s.own has

pub free_in_no_view : FreeInNoView
free_in_no_view word v t s here =
    let one = once-true (bits word) t here in
    let few = at_most_once v.depth word s.views t s.partition in
    record { here = here; nowhere = in_no_view s.views t (omega arith) }

entry_at : (t above : ℕ) (log : List Finding) → get_elem? (missed (suc (above + t)) log) above ≡ some (Tried t false)
unfolding missed
entry_at t zero log = let e : 0 + t ≡ t = omega arith in ap (λ n. some (Tried n false)) e
entry_at t (suc above) log =
    let e : suc above + t ≡ suc (above + t) = omega arith in
    ap (λ n. get_elem? (missed n log) above) e ∙ entry_at t above log

pub each_tried : EachTried
each_tried depth t above log e =
    let q : suc (above + t) ≡ depth = omega arith in
    subst (λ (n : ℕ). get_elem? (missed n log) above ≡ some (Tried t false)) q (entry_at t above log)

pub tried_once : TriedOnce
unfolding missed
tried_once zero log = omega arith
tried_once (suc depth) log = let h = tried_once depth log in omega arith

pub taken_is_held : TakenIsHeld
taken_is_held word v t s b lacks =
    let e = s.partition.below t b in
    let none = once-false (bits word) t lacks in
    let h = holder s.views t (omega arith) in
    (h.0, held_at word s.views t h.0 h.1 (omega arith) h.2 h.3)
