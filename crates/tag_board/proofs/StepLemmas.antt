-- What the table asks of each kind of step.
use Rattle.std.proofs.Common.{◌≡◌, ℕ, ◌+◌, ◌^◌, ◌<◌, Bool, true, false, List, [], ◌∷◌, ◌++◌, length, get_or, set, bit_and, bit_or, sym, ◌∙◌, refl, ap, subst, arith, length-set, get_or-set_same, ⊎_elim, true≢false}
use mathlib.Core.Option.{none, some, some-injective, some-ne-none}
use lib.ListN.{get_elem?}
use Rattle.std.specs.Int.{w32, bit_not}
use Rattle.word_bits.specs.Places.{bits, has_place, without_place, with_place}
use Rattle.word_bits.proofs.BitsLemmas.{length-bits}
use Rattle.atomic_table.specs.Table.{Me, step, keeps, Allows, Splits, Joins, Final, Seen}
use Rattle.atomic_table.proofs.Lists.{set_here, set_again}
use Rattle.tag_board.specs.declared.view.View.{View}
use Rattle.tag_board.specs.View.{blank, spent, joined, after_seen, after_tried, after_gave}
use Rattle.tag_board.specs.Partition.{once, IsPartition, IsKept, Stands}
use Rattle.tag_board.specs.Steps.{Loads, Tries, Gives}
use Rattle.tag_board.proofs.SetLemmas.{tried_stays, gave_stays, true_or_false, same_bit, same_mask, bits_without, bits_with, and_fits, or_fits}
use Rattle.tag_board.proofs.PartitionLemmas.{at-lt, moved, comes, joins_views, stands_apart}

-- a state in which the word and one view have changed
with_word : (ws : List ℕ) (n : ℕ) → length ws ≡ 1 → (length (set ws 0 n) ≡ 1) × (get_or (set ws 0 n) 0 0 ≡ n)
with_word ws n l = (length-set ws 0 n ∙ l, get_or-set_same ws 0 n 0 (omega arith))

pub stands : (d word : ℕ) (views : List View) (id : ℕ) (v : View) → v.depth ≡ d → IsPartition d word views → get_elem? views id ≡ some v → Stands word v
stands d word views id v e p at = record {
  views = views;
  place = id;
  own = at;
  partition = subst (λ (n : ℕ). IsPartition n word views) (sym e) p;
}

stands_set : (d word : ℕ) (views : List View) (id : ℕ) (v w : View) → w.depth ≡ d → IsPartition d word (set views id w) → get_elem? views id ≡ some v → Stands word w
stands_set d word views id v w e p at = stands d word (set views id w) id w e p (set_here views id w (at-lt views id v at))

-- a tag that the word has is not the view's
pub free_apart : (word : ℕ) (v : View) (t : ℕ) → Stands word v → has_place (bits word) t ≡ true → has_place v.tags t ≡ false
free_apart word v t s e =
    ⊎_elim (λ q. absurd (true≢false (sym e ∙ stands_apart word v t s q))) (λ q. q) (true_or_false (has_place v.tags t))

first_at : (ws : List ℕ) (word : ℕ) → get_elem? ws 0 ≡ some word → get_or ws 0 0 ≡ word
first_at [] word at = absurd (some-ne-none word (sym at))
first_at (x ∷ ws) word at = some-injective x word at

kept : (d n : ℕ) (ws : List ℕ) (views : List View) → length ws ≡ 1 → IsPartition d n views → (length (set ws 0 n) ≡ 1) × IsPartition d (get_or (set ws 0 n) 0 0) views
kept d n ws views l p = let w = with_word ws n l in (w.0, subst (λ (m : ℕ). IsPartition d m views) (sym w.1) p)

module _ {S : Type 0} where
  -- of a seat after a step, its tags and its slots
  pub tags_after : (m n : Me S View) → m ≡ n → m.0.tags ≡ n.0.tags
  tags_after m n e = ap (λ (x : Me S View). x.0.tags) e

  pub slots_after : (m n : Me S View) → m ≡ n → m.1 ≡ n.1
  slots_after m n e = ap (λ (x : Me S View). x.1) e

  pub loads : (d slots id : ℕ) (me : Me S View) → me.0.depth ≡ d
      → Allows (IsKept d) slots id me 0 (λ n. n) (Loads (step slots 0 0 0 none) me)
  loads d slots id me e s h homes at lt =
      let word : ℕ = get_or s.words 0 0 in
      let v : View = me.0 in
      let w : View = after_seen v word in
      let p : IsPartition d word (set s.views id w) = moved d word word s.views id v w h.1 at h.1.fits (λ t. refl) in (
        w,
        keeps,
        tt,
        kept d word s.words (set s.views id w) h.0 p,
        (stands d word s.views id v e h.1 at, stands_set d word s.views id v w e p at, refl),
      )

  pub tries : (d slots id t k : ℕ) (me : Me S View) → me.0.depth ≡ d → t < 32 → length me.0.tags ≡ 32 → k ≡ bit_not w32 (2 ^ t)
      → Allows (IsKept d) slots id me 0 (λ n. bit_and n k) (Tries (step slots 0 k 0 none) me)
  tries d slots id t k me e b l operand s h homes at lt =
      let word : ℕ = get_or s.words 0 0 in
      let v : View = me.0 in
      let had : Bool = has_place (bits word) t in
      let w : View = after_tried v t had in
      let left : ℕ = bit_and word k in
      let gone : bits left ≡ without_place (bits word) t = ap (λ n. bits (bit_and word n)) operand ∙ bits_without word t b in
      let before : Stands word v = stands d word s.views id v e h.1 at in
      let apart : had ≡ true → has_place v.tags t ≡ false = free_apart word v t before in
      let same = tried_stays (bits word) v.tags t had refl l b apart in
      let p : IsPartition d left (set s.views id w) = moved d word left s.views id v w h.1 at (and_fits word k h.1.fits) (λ i. ap (λ f. once f i + once w.tags i) gone ∙ same i) in
      let after : Stands left w = stands_set d left s.views id v w e p at in (
        w,
        keeps,
        tt,
        kept d left s.words (set s.views id w) h.0 p,
        λ u c is. let q : t ≡ u = same_mask t u b c (sym operand ∙ is) in (before, after, ap (λ (i : ℕ). (after_tried v i (has_place (bits word) i), me.1)) q),
      )

  pub gives_back : (d slots id t k : ℕ) (me : Me S View) → me.0.depth ≡ d → t < 32 → has_place me.0.tags t ≡ true → k ≡ 2 ^ t
      → Allows (IsKept d) slots id me 0 (λ n. bit_or n k) (Gives (step slots 0 k 0 none) me)
  gives_back d slots id t k me e b held operand s h homes at lt =
      let word : ℕ = get_or s.words 0 0 in
      let v : View = me.0 in
      let w : View = after_gave v t in
      let left : ℕ = bit_or word k in
      let comes_back : bits left ≡ with_place (bits word) t = ap (λ n. bits (bit_or word n)) operand ∙ bits_with word t b in
      let before : Stands word v = stands d word s.views id v e h.1 at in
      let same = gave_stays (bits word) v.tags t (length-bits word) b (stands_apart word v t before held) held in
      let fits : left < 2 ^ 32 = subst (λ (n : ℕ). bit_or word n < 2 ^ 32) (sym operand) (or_fits word t h.1.fits b) in
      let p : IsPartition d left (set s.views id w) = moved d word left s.views id v w h.1 at fits (λ i. ap (λ f. once f i + once w.tags i) comes_back ∙ same i) in
      let after : Stands left w = stands_set d left s.views id v w e p at in (
        w,
        keeps,
        tt,
        kept d left s.words (set s.views id w) h.0 p,
        λ u c is. let q : t ≡ u = same_bit t u (sym operand ∙ is) in (before, after, ap (λ (i : ℕ). (after_gave v i, me.1)) q),
      )

  -- the word that is left, with the view of the seat that closed
  pub closes : (d id word : ℕ) (v : View) (ws : List ℕ) (xs : List S) → v.depth ≡ d → Final (Seen (IsKept d) id v) ws xs → get_elem? ws 0 ≡ some word → Stands word v
  closes d id word v ws xs e f at =
      let s = f.0 in
      let here : get_or s.words 0 0 ≡ word = ap (λ l. get_or l 0 0) f.2 ∙ first_at ws word at in
      stands d word s.views id v e (subst (λ (n : ℕ). IsPartition d n s.views) here f.1.0.1) f.1.1

pub splits : (S : Type 0) (d id depth : ℕ) (v : View) → Splits {S = S} {V = View} (IsKept d) id v v (blank depth)
splits S d id depth v s h at =
    let same : set s.views id v ≡ s.views = set_again s.views id v at in
    (h.0, subst (λ (views : List View). IsPartition d (get_or s.words 0 0) (views ++ blank depth ∷ [])) (sym same) (comes d (get_or s.words 0 0) s.views depth h.1))

pub joins : (S : Type 0) (d id other : ℕ) (v w : View) → Joins {S = S} {V = View} (IsKept d) id v other w (joined v w) spent
joins S d id other v w s h at apart at' = (h.0, joins_views d (get_or s.words 0 0) s.views id other v w h.1 at apart at')
