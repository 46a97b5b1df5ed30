-- The signs of entries, and what is above the lanes. A line of the listing is a column of the row.
use Rattle.std.specs.Prelude.{ℕ, ◌*◌, ◌%◌, ◌==◌, if◌then◌else◌, List, [], ◌∷◌, ◌++◌, codes, flat_map, length, slice_index, slice_index_or}
use Rattle.std.specs.List.{range_with_len}
use Rattle.ahci_draw.specs.Lines.{label_of, lane_place, sign_place, title_of}
use Rattle.ahci_draw.specs.Strip.{middle_of}
use Rattle.ahci_draw.specs.Text.{numbered}

-- a sign in the middle of a column, and what a pointer shows there
unfoldable pub sign_shape : (column foot : ℕ) → List ℕ → ℕ → List ℕ
sign_shape column foot title sign =
    numbered (codes "<text x='") (middle_of column) ++ (numbered (codes "' y='") foot ++ (codes "'><title>" ++ (title ++ (codes "</title>"
    ++ ((sign ∷ []) ++ codes "</text>")))))

-- the sign of a column, where it is in a lane of this letter
abbrev pub sign_at : (lane foot column : ℕ) → List ℕ → List ℕ
sign_at lane foot column line = if slice_index line lane_place == lane then sign_shape column foot (title_of line) (slice_index line sign_place) else []

-- all signs of a lane
abbrev pub column_sign : (lane foot : ℕ) → List (List ℕ) → ℕ → List ℕ
column_sign lane foot lines column = sign_at lane foot column (slice_index_or lines column [])

unfoldable pub signs_text : (lane foot : ℕ) → List (List ℕ) → List ℕ
signs_text lane foot lines = flat_map (column_sign lane foot lines) (range_with_len 0 (length lines))

-- an entry's number above its column
unfoldable pub label_shape : ℕ → List ℕ → List ℕ
label_shape column label = numbered (codes "<text x='") (middle_of column) ++ (codes "' y='10'>" ++ (label ++ codes "</text>"))

-- each tenth column has it
abbrev pub label_at : ℕ → List ℕ → List ℕ
label_at column line = if column % 10 == 0 then label_shape column (label_of (title_of line)) else []

-- a line down across so many lanes
unfoldable pub rule_shape : (lanes column : ℕ) → List ℕ → List ℕ
rule_shape lanes column colour =
    codes "<path stroke-width='2' stroke='#" ++ (colour ++ (numbered (codes "' d='M") (middle_of column) ++ (numbered (codes " 24v") (16 * lanes) ++ codes "'/>")))

-- a red one at a failure, and a violet one at a recovery
abbrev pub rule_at : (lanes column sign : ℕ) → List ℕ
rule_at lanes column sign = if sign == 88 then rule_shape lanes column (codes "e55") else (if sign == 86 then rule_shape lanes column (codes "96d") else [])

-- what is behind and above the lanes of a column: its line, its number, and the sign of a command that is not queued
unfoldable pub head_at : (lanes column : ℕ) → List ℕ → List ℕ
head_at lanes column line = rule_at lanes column (slice_index line sign_place) ++ (label_at column line ++ sign_at 46 20 column line)

abbrev pub column_head : ℕ → List (List ℕ) → ℕ → List ℕ
column_head lanes lines column = head_at lanes column (slice_index_or lines column [])

unfoldable pub heads_text : ℕ → List (List ℕ) → List ℕ
heads_text lanes lines = flat_map (column_head lanes lines) (range_with_len 0 (length lines))
