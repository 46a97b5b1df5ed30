-- The slots of all page numbers, in a table of three levels whose parts are made when they are first needed.
use Rattle.std.specs.Prelude.{◌≡◌, ℕ, ◌/◌, ◌%◌, ◌*◌, ◌==◌, if◌then◌else◌, true, List, length, slice_index_or, Option, None, Some, is_some}
use Rattle.std.specs.List.{slice_get}
use Rattle.sector_store.specs.Layers.{Layers, no_pages}

-- a slot of a part of a table, none if the part isn't made
abbrev pub slot_within : {C : Type 0} → (C → ℕ → Option Layers) → Option C → ℕ → Option Layers
slot_within part_slot None q = None
slot_within part_slot (Some part) q = part_slot part q

-- a slot of a leaf of 16 slots
abbrev pub leaf_slot : List Layers → ℕ → Option Layers
leaf_slot leaf q = slice_get leaf q

-- a slot of a branch of 2,048 leaves
abbrev pub branch_slot : List (Option (List Layers)) → ℕ → Option Layers
branch_slot branch q = slot_within leaf_slot (slice_index_or branch (q / 16) None) (q % 16)

-- a slot of a table of branches
unfoldable pub slot_at : List (Option (List (Option (List Layers)))) → ℕ → Option Layers
slot_at table q = slot_within branch_slot (slice_index_or table (q / 32768) None) (q % 32768)

-- for how many page numbers a table has room
unfoldable pub table_span : List (Option (List (Option (List Layers)))) → ℕ
table_span table = 32768 * length table

-- the layers of a slot, no pages if the slot isn't made
abbrev pub layers_of : Option Layers → Layers
layers_of None = no_pages
layers_of (Some layers) = layers

-- one slot has these layers, and the others are what they were
abbrev pub IsExchanged : ℕ → Layers → (ℕ → Option Layers) → (ℕ → Option Layers) → Type 0
IsExchanged number layers old new = (q : ℕ) → new q ≡ (if q == number then Some layers else old q)

-- slots were made, and no layers have changed
pub record HasGrown (old new : ℕ → Option Layers) : Type 0 where
  pub layers : (q : ℕ) → layers_of (new q) ≡ layers_of (old q)
  pub made : (q : ℕ) → is_some (old q) ≡ true → is_some (new q) ≡ true

-- a part of a table in which no slot has a page
abbrev pub IsEmpty : (ℕ → Option Layers) → Type 0
IsEmpty slot_at = (q : ℕ) → layers_of (slot_at q) ≡ no_pages
