-- Laws of pictures.
use Rattle.std.specs.Prelude.{◌≡◌, ◌<◌, ◌≤◌, ℕ, ◌+◌, ◌*◌, ◌/◌, true, List, Option, flat_map, length}
use Rattle.std.specs.List.{list_all, range_with_len}
use Rattle.ahci_replay.specs.declared.script_fault.ScriptFault.{ScriptFault}
use Rattle.ahci_draw.specs.Drawn.{IsListing, IsListingTo, picture_lines}
use Rattle.ahci_draw.specs.Markup.{IsClosed, is_character}
use Rattle.ahci_draw.specs.Places.{edge, part_of}
use Rattle.ahci_draw.specs.Row.{row_of, rows_in}

-- what `draw` writes of a script that was replayed to its end is closed
abbrev pub AreClosed : Type 0
AreClosed = (from to : ℕ) (r s : Option (List ℕ)) (listing : List ℕ) → IsListing r s listing → IsClosed (picture_lines from to listing)

-- and so is what it writes at a fault of the script
abbrev pub AreClosedBefore : Type 0
AreClosedBefore = (from to : ℕ) (r s : Option (List ℕ)) (f : ScriptFault) (listing : List ℕ) → IsListingTo r s f listing → IsClosed (picture_lines from to listing)

-- what is closed has the characters of XML alone
abbrev pub HaveCharactersAlone : Type 0
HaveCharactersAlone = (text : List ℕ) → IsClosed text → list_all is_character text ≡ true

-- the lines of all rows, one row after the other, are the lines that are drawn, whose count the heading has
abbrev pub HoldEachOnce : Type 0
HoldEachOnce = (lines : List (List ℕ)) → flat_map (row_of lines) (range_with_len 0 (rows_in (length lines))) ≡ lines

-- the entry of an index, of so many, is at place index * 1200 / count of an overview
abbrev pub AreAtTheirPlaces : Type 0
AreAtTheirPlaces = (count index : ℕ) → index < count
    → (edge count (index * 1200 / count) ≤ index) × (index < edge count (index * 1200 / count + 1))

-- the signs at all places, one place after the other, are those of all entries
abbrev pub PlacesHoldEachOnce : Type 0
PlacesHoldEachOnce = (signs : List ℕ) → flat_map (part_of signs) (range_with_len 0 1200) ≡ signs
