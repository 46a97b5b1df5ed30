-- The lines between lanes and between tens of columns.
use Rattle.std.specs.Prelude.{ℕ, ◌+◌, ◌*◌, ◌/◌, List, ◌++◌, codes, flat_map}
use Rattle.std.specs.List.{range_with_len}
use Rattle.ahci_draw.specs.Text.{numbered}

-- the line above a lane, as wide as so many columns
unfoldable pub across : (columns lane : ℕ) → List ℕ
across columns lane = numbered (codes "M72 ") (16 * lane + 24) ++ numbered (codes "h") (12 * columns)

-- the line left of a ten of columns, as high as so many lanes
unfoldable pub down : (lanes ten : ℕ) → List ℕ
down lanes ten = numbered (codes "M") (120 * ten + 72) ++ numbered (codes " 24v") (16 * lanes)

-- one above each lane and one below the last, and one left of each ten of columns
unfoldable pub grid_text : (lanes columns : ℕ) → List ℕ
grid_text lanes columns =
    codes "<path stroke='#ddd' stroke-width='1' d='" ++ (flat_map (across columns) (range_with_len 0 (lanes + 1))
    ++ (flat_map (down lanes) (range_with_len 0 (columns / 10 + 1)) ++ codes "'/>"))
