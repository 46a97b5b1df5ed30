-- What the partition says of each tag, and what a seat may conclude from its own steps.
use Rattle.std.specs.Prelude.{◌≡◌, ◌≢◌, ℕ, ◌+◌, ◌<◌, ◌≤◌, ◌⊎◌, true, false, List, length}
use mathlib.Core.Option.{some}
use lib.ListN.{get_elem?}
use Rattle.word_bits.specs.Places.{bits, has_place}
use Rattle.tag_board.specs.declared.finding.Finding.{Finding}
use Rattle.tag_board.specs.declared.finding.Finding.TheVariants.{Tried}
use Rattle.tag_board.specs.declared.view.View.{View}
use Rattle.tag_board.specs.View.{missed}
use Rattle.tag_board.specs.Partition.{IsPartition, Stands}

-- no view has the tag
abbrev pub InNoView : List View → ℕ → Type 0
InNoView views t = (place : ℕ) (v : View) → get_elem? views place ≡ some v → has_place v.tags t ≡ false

-- the word has the tag, and no view
pub record IsFree (word : ℕ) (views : List View) (t : ℕ) : Type 0 where
  pub here : has_place (bits word) t ≡ true
  pub nowhere : InNoView views t

-- the view at one place has the tag; neither the word nor any other view has it
pub record IsHeldAt (word : ℕ) (views : List View) (t place : ℕ) : Type 0 where
  pub taken : has_place (bits word) t ≡ false
  pub own : (v : View) × (get_elem? views place ≡ some v) × (has_place v.tags t ≡ true)
  pub others : (other : ℕ) (v : View) → other ≢ place → get_elem? views other ≡ some v → has_place v.tags t ≡ false

-- a tag below the depth is free or in exactly one view
abbrev pub FreeOrHeldOnce : Type 0
FreeOrHeldOnce =
    (depth word : ℕ) (views : List View) (t : ℕ) → IsPartition depth word views → t < depth → IsFree word views t ⊎ ((place : ℕ) × IsHeldAt word views t place)

-- no other tag is anywhere
abbrev pub NoneFromDepth : Type 0
NoneFromDepth =
    (depth word : ℕ) (views : List View) (t : ℕ) → IsPartition depth word views → depth ≤ t → (has_place (bits word) t ≡ false) × InNoView views t

-- a tag of the seat is in no other view
abbrev pub HeldAlone : Type 0
HeldAlone = (word : ℕ) (v : View) (t : ℕ) (s : Stands word v) → has_place v.tags t ≡ true → IsHeldAt word s.views t s.place

-- a tag that the word has is in no view
abbrev pub FreeInNoView : Type 0
FreeInNoView = (word : ℕ) (v : View) (t : ℕ) (s : Stands word v) → has_place (bits word) t ≡ true → IsFree word s.views t

-- where every tag below the depth was tried in vain, the entry of a tag lies under those of the tags above it
abbrev pub EachTried : Type 0
EachTried = (depth t above : ℕ) (log : List Finding) → above + t + 1 ≡ depth → get_elem? (missed depth log) above ≡ some (Tried t false)

-- and the log gained no other entry
abbrev pub TriedOnce : Type 0
TriedOnce = (depth : ℕ) (log : List Finding) → length (missed depth log) ≡ depth + length log

-- a tag that the word lacked at one step was in one view at that step
abbrev pub TakenIsHeld : Type 0
TakenIsHeld =
    (word : ℕ) (v : View) (t : ℕ) (s : Stands word v) → t < v.depth → has_place (bits word) t ≡ false → (place : ℕ) × IsHeldAt word s.views t place
