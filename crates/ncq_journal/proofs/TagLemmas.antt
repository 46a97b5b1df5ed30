-- What holds of some tag, of no tag, and of the sum over all tags.
use Rattle.std.proofs.Common.{◌≡◌, ◌≢◌, ℕ, ◌+◌, ◌*◌, ◌<◌, ◌≤◌, Bool, true, false, [], ◌∷◌, ◌++◌, ap, sym, refl, ◌∙◌, arith, inl, inr, suc, zero, zero-add}
use Rattle.std.specs.List.{list_any, sum_by, range_with_len}
use Rattle.std.proofs.lemmas.Bool.{cases_eq, or_left, or_right, or_from, or_cases, false≢true, false_from_ne_true, both_ways, cases_Bool}
use Rattle.std.proofs.lemmas.List.Sums.{sum_by-cons, sum_by_push}
use Rattle.std.proofs.lemmas.List.{map-id}
use Rattle.std.proofs.lemmas.List.FromFn.{map-range_with_len_more}
use Rattle.ncq_journal.specs.Halted.{tags}

any-range : (p : ℕ → Bool) (a n t : ℕ) → a ≤ t → t < a + n → p t ≡ true → list_any p (range_with_len a n) ≡ true
any-range p a zero t low high e = absurd (omega arith)
any-range p a (suc n) t low high e =
    elim (cases_eq a t) [
      | inl same ↦ or_left (p a) _ (ap p same ∙ e)
      | inr other ↦ or_right (p a) _ (any-range p (a + 1) n t (omega arith) (omega arith) e)
    ]

none-range : (p : ℕ → Bool) (a n : ℕ) → ((t : ℕ) → a ≤ t → t < a + n → p t ≡ false) → list_any p (range_with_len a n) ≡ false
none-range p a zero each = refl
none-range p a (suc n) each =
    or_from (p a) _ (each a (omega arith) (omega arith)) (none-range p (a + 1) n (λ t low high. each t (omega arith) (omega arith)))

found-range : (p : ℕ → Bool) (a n : ℕ) → list_any p (range_with_len a n) ≡ true → (t : ℕ) × (t < a + n) × (p t ≡ true)
found-range p a zero e = absurd (false≢true e)
found-range p a (suc n) e =
    elim (or_cases (p a) _ e) [
      | inl here ↦ (a, omega arith, here)
      | inr later ↦ let f = found-range p (a + 1) n later in (f.0, omega (arith, f.1), f.2)
    ]

-- a tag with the property shows that some tag has it
pub some_tag : (p : ℕ → Bool) (t : ℕ) → t < 32 → p t ≡ true → list_any p tags ≡ true
unfolding tags
some_tag p t h e = any-range p 0 32 t (omega arith) (omega arith) e

-- no tag has the property
pub no_tag : (p : ℕ → Bool) → ((t : ℕ) → t < 32 → p t ≡ false) → list_any p tags ≡ false
unfolding tags
no_tag p each = none-range p 0 32 (λ t low high. each t (omega arith))

-- the tag that has the property
pub the_tag : (p : ℕ → Bool) → list_any p tags ≡ true → (t : ℕ) × (t < 32) × (p t ≡ true)
unfolding tags
the_tag p e = let f = found-range p 0 32 e in (f.0, omega (arith, f.1), f.2)

-- where no tag has the property, this one lacks it
pub lacks : (p : ℕ → Bool) (t : ℕ) → t < 32 → list_any p tags ≡ false → p t ≡ false
lacks p t h e = false_from_ne_true (p t) (λ held. both_ways _ e (some_tag p t h held))

-- two properties that agree on every tag
pub same_tags : (p q : ℕ → Bool) → ((t : ℕ) → t < 32 → p t ≡ q t) → list_any p tags ≡ list_any q tags
same_tags p q each =
    elim (cases_Bool (list_any q tags)) [
      | inl held ↦ let f = the_tag q held in some_tag p f.0 f.1 (each f.0 f.1 ∙ f.2) ∙ sym held
      | inr none ↦ no_tag p (λ t h. each t h ∙ lacks q t h none) ∙ sym none
    ]

sum-range_same : (f g : ℕ → ℕ) (a n : ℕ) → ((u : ℕ) → a ≤ u → u < a + n → g u ≡ f u) → sum_by g (range_with_len a n) ≡ sum_by f (range_with_len a n)
sum-range_same f g a zero each = refl
sum-range_same f g a (suc n) each =
    let rest = sum-range_same f g (a + 1) n (λ u low high. each u (omega arith) (omega arith)) in
    let here = each a (omega arith) (omega arith) in
    omega (arith, sum_by-cons f a (range_with_len (a + 1) n), sum_by-cons g a (range_with_len (a + 1) n), rest, here)

sum-range_one : (f g : ℕ → ℕ) (a n t : ℕ) → a ≤ t → t < a + n → ((u : ℕ) → u ≢ t → g u ≡ f u) → sum_by g (range_with_len a n) + f t ≡ sum_by f (range_with_len a n) + g t
sum-range_one f g a zero t low high others = absurd (omega arith)
sum-range_one f g a (suc n) t low high others =
    elim (cases_eq a t) [
      | inl same ↦
          let rest = sum-range_same f g (a + 1) n (λ u low' high'. others u (omega arith)) in
          let here : f a ≡ f t = ap f same in
          let there : g a ≡ g t = ap g same in
          omega (arith, sum_by-cons f a (range_with_len (a + 1) n), sum_by-cons g a (range_with_len (a + 1) n), rest)
      | inr other ↦
          let rest = sum-range_one f g (a + 1) n t (omega arith) (omega arith) others in
          let here = others a other in
          omega (arith, sum_by-cons f a (range_with_len (a + 1) n), sum_by-cons g a (range_with_len (a + 1) n), rest)
    ]

sum-range_le : (f : ℕ → ℕ) (m a n : ℕ) → ((u : ℕ) → f u ≤ m) → sum_by f (range_with_len a n) ≤ n * m
sum-range_le f m a zero each = omega arith
sum-range_le f m a (suc n) each =
    let rest = sum-range_le f m (a + 1) n each in
    let here = each a in
    omega (arith, sum_by-cons f a (range_with_len (a + 1) n), rest, here)

sum-range_add : (f g h : ℕ → ℕ) (a n : ℕ) → ((u : ℕ) → h u ≡ f u + g u) → sum_by h (range_with_len a n) ≡ sum_by f (range_with_len a n) + sum_by g (range_with_len a n)
sum-range_add f g h a zero each = refl
sum-range_add f g h a (suc n) each =
    let rest = sum-range_add f g h (a + 1) n each in
    let here = each a in
    omega (arith, sum_by-cons f a (range_with_len (a + 1) n), sum_by-cons g a (range_with_len (a + 1) n), sum_by-cons h a (range_with_len (a + 1) n), rest, here)

-- the same number for each tag makes the same sum
pub sum_same : (f g : ℕ → ℕ) → ((u : ℕ) → g u ≡ f u) → sum_by g tags ≡ sum_by f tags
unfolding tags
sum_same f g same = sum-range_same f g 0 32 (λ u _ _. same u)

-- the sum over all tags where one tag's number alone changes
pub sum_one : (f g : ℕ → ℕ) (t : ℕ) → t < 32 → ((u : ℕ) → u ≢ t → g u ≡ f u) → sum_by g tags + f t ≡ sum_by f tags + g t
unfolding tags
sum_one f g t h others = sum-range_one f g 0 32 t (omega arith) (omega arith) others

-- a bound on each number bounds the sum
pub sum_le : (f : ℕ → ℕ) (m : ℕ) → ((u : ℕ) → f u ≤ m) → sum_by f tags ≤ 32 * m
unfolding tags
sum_le f m each = sum-range_le f m 0 32 each

-- the sum of sums
pub sum_add : (f g h : ℕ → ℕ) → ((u : ℕ) → h u ≡ f u + g u) → sum_by h tags ≡ sum_by f tags + sum_by g tags
unfolding tags
sum_add f g h each = sum-range_add f g h 0 32 each

pub range_more : (a n : ℕ) → range_with_len a (n + 1) ≡ range_with_len a n ++ (a + n) ∷ []
range_more a n = sym (map-id (range_with_len a (n + 1))) ∙ map-range_with_len_more (λ x. x) a n (a + n) refl ∙ ap (λ xs. xs ++ (a + n) ∷ []) (map-id (range_with_len a n))

-- the sum over the tags below n
unfoldable pub sum_tags : (ℕ → ℕ) → ℕ → ℕ
sum_tags f n = sum_by f (range_with_len 0 n)

pub sum_tags_none : (f : ℕ → ℕ) → sum_tags f 0 ≡ 0
unfolding sum_tags
sum_tags_none f = refl

-- one tag more
pub sum_tags_more : (f : ℕ → ℕ) (n : ℕ) → sum_tags f (n + 1) ≡ sum_tags f n + f n
unfolding sum_tags
sum_tags_more f n = ap (sum_by f) (range_more 0 n) ∙ sum_by_push f (range_with_len 0 n) (0 + n) ∙ ap (λ k. sum_by f (range_with_len 0 n) + f k) (zero-add n)

-- all 32 tags
pub sum_tags_all : (f : ℕ → ℕ) → sum_by f tags ≡ sum_tags f 32
unfolding sum_tags tags
sum_tags_all f = refl
