-- Which tag of a set an order names: the lowest, the highest, the one that a draw falls on, or the next one from a draw's place on. A set is
-- that of a word's bits.
use Rattle.std.specs.Prelude.{◌≡◌, ℕ, ◌+◌, ◌-◌, ◌%◌, ◌<◌, ◌≤◌, Bool, true, List, take, count_by}
use Rattle.word_bits.specs.Places.{has_place, IsLowest, IsHighest}
use Rattle.device_choice.specs.declared.order.Order.{Order}
use Rattle.device_choice.specs.declared.order.Order.TheVariants.{Lowest, Highest, Drawn, Round}

-- how many tags a set has
abbrev pub count_in : List Bool → ℕ
count_in s = count_by (λ b. b) s

-- how many tags of a set are below a tag
abbrev pub count_below : List Bool → ℕ → ℕ
count_below s tag = count_in (take tag s)

-- the tag of a set that a draw falls on: counted from the lowest, which is number 0, its number is the draw modulo how many there are
pub record IsDrawn (draw : ℕ) (s : List Bool) (tag : ℕ) : Type 0 where
  pub here : has_place s tag ≡ true
  pub below : count_below s tag ≡ draw % count_in s

-- how many places behind a draw's place a tag is, going round past 31 to 0; a draw's place is the draw modulo 32
abbrev pub behind : ℕ → ℕ → ℕ
behind draw tag = (tag + 32 - draw % 32) % 32

-- the tag of a set that comes first from a draw's place on: no tag of the set is fewer places behind
pub record IsNext (draw : ℕ) (s : List Bool) (tag : ℕ) : Type 0 where
  pub here : has_place s tag ≡ true
  pub is_tag : tag < 32
  pub nearest : (t : ℕ) → t < 32 → has_place s t ≡ true → behind draw tag ≤ behind draw t

-- the order names this tag of a set, with this draw
abbrev pub Names : Order → ℕ → List Bool → ℕ → Type 0
Names Lowest draw s tag = IsLowest s tag
Names Highest draw s tag = IsHighest s tag
Names Drawn draw s tag = IsDrawn draw s tag
Names Round draw s tag = IsNext draw s tag
