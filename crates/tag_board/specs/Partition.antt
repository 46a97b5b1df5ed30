-- The word and all views as one: where each tag is, between any two steps of any threads.
use Rattle.std.specs.Prelude.{◌≡◌, ℕ, ◌+◌, ◌^◌, ◌<◌, ◌≤◌, Bool, if◌then◌else◌, List, [], ◌∷◌, length, slice_index}
use mathlib.Core.Option.{some}
use lib.ListN.{get_elem?}
use Rattle.word_bits.specs.Places.{bits, has_place}
use Rattle.atomic_table.specs.Table.{State}
use Rattle.tag_board.specs.declared.view.View.{View}

-- 1 where the tag is in the set, else 0
abbrev pub once : List Bool → ℕ → ℕ
once tags t = if has_place tags t then 1 else 0

-- how many views have the tag; that of a seat that was dropped counts
abbrev pub holders : List View → ℕ → ℕ
holders [] t = 0
holders (v ∷ views) t = once v.tags t + holders views t

-- each tag below the depth is in the word or in exactly one view, and not in both; no other tag is in any of them
pub record IsPartition (depth word : ℕ) (views : List View) : Type 0 where
  pub below : (t : ℕ) → t < depth → once (bits word) t + holders views t ≡ 1
  pub past : (t : ℕ) → depth ≤ t → once (bits word) t + holders views t ≡ 0
  pub fits : word < 2 ^ 32

-- what every step keeps
abbrev pub IsKept : {S : Type 0} → ℕ → State S View → Type 0
IsKept depth s = (length s.words ≡ 1) × IsPartition depth (slice_index s.words 0) s.views

-- the word and the view at one moment: some views, this one among them, make a partition with the word
pub record Stands (word : ℕ) (v : View) : Type 0 where
  pub views : List View
  pub place : ℕ
  pub own : get_elem? views place ≡ some v
  pub partition : IsPartition v.depth word views
