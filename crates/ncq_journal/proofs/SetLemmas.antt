-- A set of tags that a scan collects in a word.
use Rattle.std.proofs.Common.{◌≡◌, ◌≢◌, ℕ, ◌+◌, ◌<◌, Bool, true, false, ◌&&◌, ltb, List, ap, sym, ◌∙◌, arith, inl, inr}
use Rattle.std.proofs.lemmas.Bool.{cases_eq, cases_lt, lt-ltb, le-ltb, and_right}
use Rattle.word_bits.specs.Places.{places, bits, with_place}
use Rattle.word_bits.proofs.PlacesLemmas.{same_places, places_none, with_place-places}
use Rattle.word_bits.proofs.BitsLemmas.{bits_zero}

-- the tags below n with the property
abbrev pub among : (ℕ → Bool) → ℕ → List Bool
among p n = places (λ t. ltb t n && p t)

-- none at first
pub among_none : (p : ℕ → Bool) → bits 0 ≡ among p 0
among_none p = bits_zero ∙ sym (places_none (λ t. ltb t 0 && p t) (λ t h. ap (λ b. b && p t) (le-ltb t 0 (omega arith))))

same_below : (t n : ℕ) → t ≢ n → ltb t (n + 1) ≡ ltb t n
same_below t n other =
    elim (cases_lt t n) [
      | inl low ↦ lt-ltb t (n + 1) (omega arith) ∙ sym (lt-ltb t n low)
      | inr high ↦ le-ltb t (n + 1) (omega arith) ∙ sym (le-ltb t n high)
    ]

-- one tag more, which has the property
pub among_with : (p : ℕ → Bool) (n : ℕ) → n < 32 → p n ≡ true → with_place (among p n) n ≡ among p (n + 1)
among_with p n h e =
    with_place-places (λ t. ltb t n && p t) (λ t. ltb t (n + 1) && p t) n h
    (ap (λ b. b && p n) (lt-ltb n (n + 1) (omega arith)) ∙ e)
    (λ t below other. ap (λ b. b && p t) (same_below t n other))

-- one tag more, which lacks it
pub among_without : (p : ℕ → Bool) (n : ℕ) → p n ≡ false → among p n ≡ among p (n + 1)
among_without p n e = same_places (λ t. ltb t n && p t) (λ t. ltb t (n + 1) && p t) (λ t h. step t)
  where
    step : (t : ℕ) → (ltb t n && p t) ≡ (ltb t (n + 1) && p t)
    step t = elim (cases_eq t n) [
      | inl same ↦ and_right (ltb t n) (p t) (ap p same ∙ e) ∙ sym (and_right (ltb t (n + 1)) (p t) (ap p same ∙ e))
      | inr other ↦ ap (λ b. b && p t) (sym (same_below t n other))
    ]

-- all 32 tags
pub among_all : (p : ℕ → Bool) → among p 32 ≡ places p
among_all p = same_places (λ t. ltb t 32 && p t) p (λ t h. ap (λ b. b && p t) (lt-ltb t 32 h))
