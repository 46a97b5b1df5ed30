-- A set of places below 32, as 32 truth values: the one at index i says whether place i is in the set.
-- So contracts see the tags of a port and the bits of a 32-bit word, which `bits` turns into such a set.
use Rattle.std.specs.Prelude.{◌≡◌, ℕ, zero, suc, ◌+◌, ◌*◌, ◌<◌, Bool, true, false, not, ◌&&◌, ◌||◌, if◌then◌else◌, List, [], ◌∷◌, map, nat_eq, slice_index_or, slice_set}
use Rattle.std.specs.Int.{bit_at}
use Rattle.std.specs.List.{range_with_len}

-- the set of the places below 32 at which p is true
unfoldable pub places : (ℕ → Bool) → List Bool
places p = map p (range_with_len 0 32)

-- the set of the places at which a word's bit is 1
unfoldable pub bits : ℕ → List Bool
bits w = places (λ i. nat_eq (bit_at w i) 1)

-- the word whose bits these are
unfoldable pub word_of : List Bool → ℕ
word_of [] = 0
word_of (b ∷ s) = (if b then 1 else 0) + 2 * word_of s

-- whether a place is in the set; past its end, none is
abbrev pub has_place : List Bool → ℕ → Bool
has_place s i = slice_index_or s i false

-- the empty set
unfoldable pub no_places : List Bool
no_places = places (λ _. false)

-- the set of all places below 32
unfoldable pub all_places : List Bool
all_places = places (λ _. true)

-- the set with one place more
unfoldable pub with_place : List Bool → ℕ → List Bool
with_place s i = slice_set s i true

-- the set with one place less
unfoldable pub without_place : List Bool → ℕ → List Bool
without_place s i = slice_set s i false

-- the places that are in either set
unfoldable pub union : List Bool → List Bool → List Bool
union [] t = t
union (x ∷ s) [] = x ∷ s
union (x ∷ s) (y ∷ t) = (x || y) ∷ union s t

-- the places of the first set that are in the second too
unfoldable pub intersection : List Bool → List Bool → List Bool
intersection [] t = []
intersection (x ∷ s) [] = false ∷ intersection s []
intersection (x ∷ s) (y ∷ t) = (x && y) ∷ intersection s t

-- the places of the first set that aren't in the second
unfoldable pub minus : List Bool → List Bool → List Bool
minus [] t = []
minus (x ∷ s) [] = x ∷ s
minus (x ∷ s) (y ∷ t) = (x && not y) ∷ minus s t

-- the places of a set that are below a depth
unfoldable pub only_below : ℕ → List Bool → List Bool
only_below d [] = []
only_below zero (x ∷ s) = false ∷ only_below zero s
only_below (suc d) (x ∷ s) = x ∷ only_below d s

-- the place is the set's lowest
pub record IsLowest (s : List Bool) (i : ℕ) : Type 0 where
  pub here : has_place s i ≡ true
  pub below : (k : ℕ) → k < i → has_place s k ≡ false

-- the place is the set's highest
pub record IsHighest (s : List Bool) (i : ℕ) : Type 0 where
  pub here : has_place s i ≡ true
  pub above : (k : ℕ) → i < k → has_place s k ≡ false
