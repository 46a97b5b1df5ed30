-- Which tags the device completes in one turn, by one Set Device Bits FIS (Serial ATA, "Set Device Bits - Device to Host").
use Rattle.std.specs.Prelude.{◌≡◌, ℕ, ◌+◌, ◌<◌, max, Bool, List, [], ◌∷◌, take, slice_index}
use Rattle.std.specs.List.{position_or_len}
use Rattle.word_bits.specs.Places.{has_place, no_places, without_place}
use Rattle.device_choice.specs.Orders.{Names}
use Rattle.device_choice.specs.declared.order.Order.{Order}

-- the tags of a set that an order names one after the other, each out of those that are left, after `at` others: until there are `most`, or
-- none is left. Each has a draw, and a draw that isn't there is 0
abbrev pub AreNamed : Order → (draws : List ℕ) → (most at : ℕ) → List Bool → List ℕ → Type 0
AreNamed order draws most at s [] = at < most → s ≡ no_places
AreNamed order draws most at s (tag ∷ tags) = (at < most) × Names order (slice_index draws at) s tag × AreNamed order draws most (at + 1) (without_place s tag) tags

-- the tags of a list before the first that is to fail, or that one alone if it comes first
abbrev pub up_to_failing : List Bool → List ℕ → List ℕ
up_to_failing failing tags = take (max 1 (position_or_len (has_place failing) tags)) tags

-- the tags of a turn: those that an order names, up to the first that is to fail
pub record IsTurn (order : Order) (draws : List ℕ) (most : ℕ) (failing s : List Bool) (tags : List ℕ) : Type 0 where
  pub named : List ℕ
  pub are_named : AreNamed order draws most 0 s named
  pub cut : tags ≡ up_to_failing failing named
