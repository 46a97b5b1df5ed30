-- Strips of a row. Columns are 12 units wide, and lanes 16 high.
use Rattle.std.specs.Prelude.{ℕ, ◌+◌, ◌-◌, ◌*◌, ◌%◌, ◌==◌, ◌&&◌, nat_le, if◌then◌else◌, not, Bool, true, List, [], ◌++◌, codes, drop, flat_map, length, slice_index}
use Rattle.std.specs.List.{range_with_len, take_while}
use Rattle.ahci_draw.specs.Text.{numbered}
use Rattle.ahci_draw.specs.declared.strip.Strip.{Strip}
use Rattle.ahci_draw.specs.declared.strip.Strip.TheVariants.{Lane, Device}

-- the left edge of a column, and its middle
abbrev pub left_of : ℕ → ℕ
left_of column = 12 * column + 72

abbrev pub middle_of : ℕ → ℕ
middle_of column = 12 * column + 78

-- the colour of a letter: light for a read, dark for a write
abbrev pub colour_of : ℕ → List ℕ
colour_of cell =
    if cell == 105 then codes "fe8" else (if cell == 73 then codes "ea1" else (if cell == 97 then codes "bdf" else (if cell == 65 then codes "49f"
    else (if cell == 102 then codes "fbb" else (if cell == 70 then codes "e55" else (if cell == 104 then codes "ddd" else (if cell == 72 then codes "aaa"
    else (if cell == 100 then codes "bea" else codes "5b6"))))))))

-- the bar of so many columns from one on, in the lane after so many others
unfoldable pub bar_shape : ℕ → List ℕ → ℕ → ℕ → List ℕ
bar_shape lane colour start count =
    codes "<path stroke='#" ++ (colour ++ (numbered (codes "' d='M") (left_of start) ++ (numbered (codes " ") (16 * lane + 32)
    ++ (numbered (codes "h") (12 * count) ++ codes "'/>"))))

-- the foot of a count below its bar: in every second column a count of two digits is a line lower, since it is as wide as a column
abbrev pub count_foot : (tags start : ℕ) → ℕ
count_foot tags start = if nat_le 10 tags && (start % 2 == 1) then 49 else 40

-- a bar as high as so many tags of the device, three units for each, below so many lanes, and their number
unfoldable pub level_shape : ℕ → ℕ → ℕ → ℕ → List ℕ
level_shape lanes tags start count =
    numbered (codes "<path d='M") (left_of start) ++ (numbered (codes " ") (19 * lanes + 30) ++ (numbered (codes "v-") (3 * tags)
    ++ (numbered (codes "h") (12 * count) ++ (numbered (codes "v") (3 * tags) ++ (numbered (codes "z'/><text x='") (middle_of start)
    ++ (numbered (codes "' y='") (19 * lanes + count_foot tags start) ++ (numbered (codes "'>") tags ++ codes "</text>")))))))

-- what is drawn of a run of a letter, which has so many columns from one on: nothing of a free tag, and of a device with none
abbrev pub run_text : Strip → ℕ → ℕ → ℕ → List ℕ
run_text (Lane lane) cell start count = if cell == 46 then [] else bar_shape lane (colour_of cell) start count
run_text (Device lanes) cell start count = if nat_le cell 65 then [] else level_shape lanes (cell - 65) start count

-- a run begins where another letter comes before it, or none
abbrev pub begins : List ℕ → ℕ → Bool
begins cells place = if place == 0 then true else not (slice_index cells (place - 1) == slice_index cells place)

-- and goes on as long as the letter stays the same
abbrev pub run_length : List ℕ → ℕ → ℕ
run_length cells place = length (take_while (λ cell. cell == slice_index cells place) (drop place cells))

abbrev pub run_at : Strip → List ℕ → ℕ → List ℕ
run_at strip cells place = if begins cells place then run_text strip (slice_index cells place) place (run_length cells place) else []

-- all runs of a strip, in which each column has a letter
unfoldable pub runs_text : Strip → List ℕ → List ℕ
runs_text strip cells = flat_map (run_at strip cells) (range_with_len 0 (length cells))
