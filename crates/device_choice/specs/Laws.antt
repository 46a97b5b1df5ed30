-- What holds of each turn, as the functions of src/laws.rt say.
use Rattle.std.specs.Prelude.{◌≡◌, ◌≢◌, ℕ, ◌<◌, ◌≤◌, Bool, true, List, [], ◌∷◌, length, All, AllPairs, Contains}
use Rattle.word_bits.specs.Places.{has_place, no_places}
use Rattle.device_choice.specs.Orders.{Names}
use Rattle.device_choice.specs.Turns.{IsTurn}
use Rattle.device_choice.specs.declared.order.Order.{Order}

-- an order names one tag of a set
abbrev pub NamesOne : Type 0
NamesOne = (order : Order) (draw : ℕ) (s : List Bool) (a b : ℕ) → Names order draw s a → Names order draw s b → a ≡ b

-- there is one turn
abbrev pub IsOneTurn : Type 0
IsOneTurn =
    (order : Order) (draws : List ℕ) (most : ℕ) (failing s : List Bool) (xs ys : List ℕ) → IsTurn order draws most failing s xs
    → IsTurn order draws most failing s ys → xs ≡ ys

-- its tags are of the set
abbrev pub AreOfTheSet : Type 0
AreOfTheSet =
    (order : Order) (draws : List ℕ) (most : ℕ) (failing s : List Bool) (tags : List ℕ) → IsTurn order draws most failing s tags
    → All (λ tag. has_place s tag ≡ true) tags

-- no two of them are equal
abbrev pub AreDistinct : Type 0
AreDistinct =
    (order : Order) (draws : List ℕ) (most : ℕ) (failing s : List Bool) (tags : List ℕ) → IsTurn order draws most failing s tags
    → AllPairs (λ a b. a ≢ b) tags

-- there are no more than `most`
abbrev pub AreFew : Type 0
AreFew =
    (order : Order) (draws : List ℕ) (most : ℕ) (failing s : List Bool) (tags : List ℕ) → IsTurn order draws most failing s tags
    → length tags ≤ most

-- there is one, if the set has some and `most` is at least 1
abbrev pub AreSome : Type 0
AreSome =
    (order : Order) (draws : List ℕ) (most : ℕ) (failing s : List Bool) (tags : List ℕ) → IsTurn order draws most failing s tags
    → s ≢ no_places → 0 < most → 0 < length tags

-- one that is to fail is alone
abbrev pub FailsAlone : Type 0
FailsAlone =
    (order : Order) (draws : List ℕ) (most : ℕ) (failing s : List Bool) (tags : List ℕ) (tag : ℕ) → IsTurn order draws most failing s tags
    → Contains tags tag → has_place failing tag ≡ true → tags ≡ tag ∷ []
