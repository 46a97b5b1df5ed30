-- A set that has a lowest or a highest place isn't empty.
use Rattle.std.proofs.Common.{◌≡◌, ℕ, Bool, true, List, ap, sym, ◌∙◌}
use Rattle.std.proofs.lemmas.Bool.{true≢false}
use Rattle.word_bits.specs.Places.{has_place, no_places, IsLowest, IsHighest}
use Rattle.word_bits.proofs.PlacesLemmas.{has_place-no_places}

none_here : (s : List Bool) (i : ℕ) → has_place s i ≡ true → s ≡ no_places → ⊥
none_here s i here none = true≢false (sym here ∙ ap (λ x. has_place x i) none ∙ has_place-no_places i)

pub lowest_is_some : (s : List Bool) (i : ℕ) → IsLowest s i → s ≡ no_places → ⊥
lowest_is_some s i low none = none_here s i low.here none

pub highest_is_some : (s : List Bool) (i : ℕ) → IsHighest s i → s ≡ no_places → ⊥
highest_is_some s i high none = none_here s i high.here none
