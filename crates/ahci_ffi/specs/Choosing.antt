-- Which tag the device goes on with, chosen with no port: when each call is refused, and what it answers otherwise.
use Rattle.std.specs.Prelude.{◌≡◌, ℕ, ◌<◌, ◌==◌, List, Option, None, Some, if◌then◌else◌}
use Rattle.device_choice.specs.Orders.{Names}
use Rattle.device_choice.specs.Turns.{IsTurn}
use Rattle.device_choice.specs.declared.order.Order.{Order}
use Rattle.device_choice.specs.declared.order.Order.TheVariants as order
use Rattle.word_bits.specs.Places.{bits}
use Rattle.ahci_ffi.specs.Fises.{PutsAll}
use Rattle.port_refusal.specs.declared.refusal.Refusal.TheVariants as refusal
use Rattle.ahci_ffi.specs.declared.status.Status.{Status}
use Rattle.ahci_ffi.specs.declared.status.Status.TheVariants as status

-- the order of a number
abbrev pub order_numbered : ℕ → Option Order
order_numbered number =
    if number == 0 then Some order.Lowest else (if number == 1 then Some order.Highest else (if number == 2 then Some order.Drawn else (if number == 3 then Some order.Round else None)))

-- the tag of a set that an order names, or that the set is empty
pub data AnswersNamed (by : Order) (set draw : ℕ) (answer : Status) (before after : ℕ) : Type 0 where
  is_named : Names by draw (bits set) after → answer ≡ status.Done → AnswersNamed by set draw answer before after
  is_empty : set ≡ 0 → answer ≡ (status.Refused refusal.BadTags) → after ≡ before → AnswersNamed by set draw answer before after

-- the same, if the number is that of an order
abbrev pub AnswersTagBy : Option Order → (set draw : ℕ) → Status → (before after : ℕ) → Type 0
AnswersTagBy None set draw answer before after = (answer ≡ status.BadKind) × (after ≡ before)
AnswersTagBy (Some by) set draw answer before after = AnswersNamed by set draw answer before after

abbrev pub AnswersTag : (number set draw : ℕ) → Status → (before after : ℕ) → Type 0
AnswersTag number set draw answer before after = AnswersTagBy (order_numbered number) set draw answer before after

-- the tags of a turn at the beginning of a buffer, with their number, or no room for them; or that the set is empty
pub data AnswersTurnOf (by : Order) (set failing most : ℕ) (draws : List ℕ) (answer : Status) (old new : List ℕ) (before after : ℕ) : Type 0 where
  is_turn : (tags : List ℕ) → 0 < set → IsTurn by draws most (bits failing) (bits set) tags → PutsAll tags answer old new before after → AnswersTurnOf by set failing most draws answer old new before after
  is_none : set ≡ 0 → answer ≡ (status.Refused refusal.BadTags) → new ≡ old → after ≡ before → AnswersTurnOf by set failing most draws answer old new before after

-- the same, if the number is that of an order
abbrev pub AnswersTurnBy : Option Order → (set failing most : ℕ) → (draws : List ℕ) → Status → (old new : List ℕ) → (before after : ℕ) → Type 0
AnswersTurnBy None set failing most draws answer old new before after = (answer ≡ status.BadKind) × (new ≡ old) × (after ≡ before)
AnswersTurnBy (Some by) set failing most draws answer old new before after = AnswersTurnOf by set failing most draws answer old new before after

abbrev pub AnswersTurn : (number set failing most : ℕ) → (draws : List ℕ) → Status → (old new : List ℕ) → (before after : ℕ) → Type 0
AnswersTurn number set failing most draws answer old new before after =
    AnswersTurnBy (order_numbered number) set failing most draws answer old new before after
