-- Rows of a hundred columns, one below the other, and beside 48 of them the next 48: programs that show pictures stop at a height of 32,767, and a row of
-- 32 lanes has 664.
use Rattle.std.specs.Prelude.{ℕ, ◌+◌, ◌*◌, ◌/◌, ◌%◌, List, ◌++◌, codes, drop, flat_map, length, take}
use Rattle.std.specs.List.{range_with_len}
use Rattle.ahci_draw.specs.Grid.{grid_text}
use Rattle.ahci_draw.specs.Lanes.{device_text, lanes_text}
use Rattle.ahci_draw.specs.Signs.{heads_text}
use Rattle.ahci_draw.specs.Text.{numbered}

-- how many rows so many columns have, the last of which may be shorter
abbrev pub rows_in : ℕ → ℕ
rows_in columns = (columns + 99) / 100

-- how many stacks of 48 rows they are in, the last of which may have fewer
abbrev pub stacks_in : ℕ → ℕ
stacks_in columns = (rows_in columns + 47) / 48

-- how high a row of so many lanes is, and where each begins
abbrev pub row_height : ℕ → ℕ
row_height lanes = 19 * lanes + 56

abbrev pub row_top : (lanes row : ℕ) → ℕ
row_top lanes row = row_height lanes * (row % 48) + 96

abbrev pub row_left : (row : ℕ) → ℕ
row_left row = 1280 * (row / 48)

-- the lines of a row
abbrev pub row_of : List (List ℕ) → ℕ → List (List ℕ)
row_of lines row = take 100 (drop (100 * row) lines)

-- a row with a lane for each of these tags
unfoldable pub row_text : List ℕ → List (List ℕ) → ℕ → List ℕ
row_text tags lines row =
    numbered (codes "\n<g transform='translate(") (row_left row) ++ (numbered (codes " ") (row_top (length tags) row) ++ (codes ")'>"
    ++ (grid_text (length tags) (length lines) ++ (heads_text (length tags) lines ++ (lanes_text tags lines ++ (device_text (length tags) lines ++ codes "</g>"))))))

abbrev pub row_at : List ℕ → List (List ℕ) → ℕ → List ℕ
row_at tags lines row = row_text tags (row_of lines row) row

-- all rows of a picture
unfoldable pub rows_text : List ℕ → List (List ℕ) → List ℕ
rows_text tags lines = flat_map (row_at tags lines) (range_with_len 0 (rows_in (length lines)))
