-- What a loop over the tags has filled in so far.
use Rattle.std.proofs.Common.{◌≡◌, ◌≢◌, ℕ, ◌+◌, ◌<◌, Bool, true, false, nat_eq, List, length, get_or, set, refl, ◌∙◌, ap, sym, arith}
use Rattle.std.proofs.lemmas.Bool.{eq-eqb, eqb-true, true≢false}
use Rattle.std.proofs.lemmas.Grind.{get_or-set_at}
use Rattle.std.proofs.lemmas.List.{get_or-set_other, length-set}

-- what is filled in for the tags below n
pub record IsFilled {X : Type 0} (none : X) (f : ℕ → X) (xs : List X) (n : ℕ) : Type 0 where
  pub long : length xs ≡ 32
  pub each : (tag : ℕ) → tag < n → get_or xs tag none ≡ f tag

-- one tag more
one_each : {X : Type 0} (none : X) (f : ℕ → X) (xs : List X) (n i : ℕ) (x : X) → i ≡ n → n < length xs → ((tag : ℕ) → tag < n → get_or xs tag none ≡ f tag) → x ≡ f n
    → (tag : ℕ) → tag < n + 1 → get_or (set xs i x) tag none ≡ f tag
one_each none f xs n i x at within before is tag below = by (nat_eq tag n) refl
  where
    by : (b : Bool) → nat_eq tag n ≡ b → get_or (set xs i x) tag none ≡ f tag
    by true e = let same : tag ≡ n = eqb-true tag n e in get_or-set_at xs i tag x none (same ∙ sym at) (omega arith) ∙ is ∙ ap f (sym same)
    by false e =
        let other : tag < n = let no : tag ≢ n = λ same. true≢false (sym (eq-eqb tag n same) ∙ e) in omega (arith, no) in
        get_or-set_other xs i tag x none (λ same. absurd (let s : tag ≡ n = same ∙ at in omega (arith, s))) ∙ before tag other

pub one_more : {X : Type 0} (none : X) (f : ℕ → X) (xs : List X) (n i : ℕ) (x : X) → i ≡ n → n < 32 → IsFilled none f xs n → x ≡ f n → IsFilled none f (set xs i x) (n + 1)
one_more none f xs n i x at small so_far is =
    let within : n < length xs = let long = so_far.long in omega arith in
    record { long = length-set xs i x ∙ so_far.long; each = one_each none f xs n i x at within so_far.each is }
