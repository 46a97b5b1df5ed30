-- A board and a seat as contracts see them.
use Rattle.std.specs.Prelude.{◌≡◌, ℕ, ◌≤◌, Bool, false, true, List, []}
use Rattle.word_bits.specs.Places.{bits, has_place, no_places}
use Rattle.atomic_table.specs.Seated.{TableId}
use Rattle.tag_board.specs.declared.finding.Finding.{Finding}
use Rattle.tag_board.specs.declared.view.View.{View}

-- which board it is, and how many tags it has
pub record Board : Type 0 where
  pub name : TableId
  pub depth : ℕ

-- of which board a seat is, its tags, and what its own steps found, the newest first
pub record Seated : Type 0 where
  pub board : Board
  pub tags : List Bool
  pub log : List Finding

-- the seat's view in the board's partition
abbrev pub view_of : Seated → View
view_of s = record { depth = s.board.depth; tags = s.tags; log = s.log }

-- a seat with no tags and an empty log
abbrev pub newcomer : Board → Seated
newcomer b = record { board = b; tags = no_places; log = [] }

-- the word's tags are not the seat's, and are all below the board's depth
pub record IsFreeBeside (s : Seated) (word : ℕ) : Type 0 where
  pub others : (t : ℕ) → has_place s.tags t ≡ true → has_place (bits word) t ≡ false
  pub below : (t : ℕ) → s.board.depth ≤ t → has_place (bits word) t ≡ false
