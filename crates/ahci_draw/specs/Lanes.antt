-- The lanes of a row, and the row of the device below them.
use Rattle.std.specs.Prelude.{ℕ, ◌+◌, ◌*◌, ◌==◌, not, Bool, ◌||◌, List, ◌++◌, codes, filter, flat_map, length, map, slice_index}
use Rattle.std.specs.List.{list_any, range_with_len}
use Rattle.ahci_draw.specs.Lines.{device_place, lane_place}
use Rattle.ahci_draw.specs.Signs.{signs_text}
use Rattle.ahci_draw.specs.Strip.{runs_text}
use Rattle.ahci_draw.specs.declared.strip.Strip.TheVariants.{Lane, Device}
use Rattle.ahci_draw.specs.Text.{letter, numbered}

-- an entry is about a tag: the tag is not free after it, or it is the entry's own
abbrev pub is_told : List ℕ → ℕ → Bool
is_told line tag = not (slice_index line tag == 46) || (slice_index line lane_place == letter tag)

-- a tag has a lane where some entry is about it
abbrev pub has_lane : List (List ℕ) → ℕ → Bool
has_lane lines tag = list_any (λ line. is_told line tag) lines

unfoldable pub tags_in : List (List ℕ) → List ℕ
tags_in lines = filter (has_lane lines) (range_with_len 0 32)

-- the letter that each column has at a place
abbrev pub cells_in : List (List ℕ) → ℕ → List ℕ
cells_in lines place = map (λ line. slice_index line place) lines

-- the name of a lane
unfoldable pub name_shape : (lane tag : ℕ) → List ℕ
name_shape lane tag = numbered (codes "\n<text x='36' y='") (16 * lane + 35) ++ (numbered (codes "'>tag ") tag ++ codes "</text>")

-- the lane of a tag, after so many others: its name, the runs of its phases, and the signs of its entries
unfoldable pub lane_text : List (List ℕ) → (lane tag : ℕ) → List ℕ
lane_text lines lane tag = name_shape lane tag ++ (runs_text (Lane lane) (cells_in lines tag) ++ signs_text (letter tag) (16 * lane + 35) lines)

abbrev pub lane_at : List ℕ → List (List ℕ) → ℕ → List ℕ
lane_at tags lines lane = lane_text lines lane (slice_index tags lane)

-- the lanes of these tags
unfoldable pub lanes_text : List ℕ → List (List ℕ) → List ℕ
lanes_text tags lines = flat_map (lane_at tags lines) (range_with_len 0 (length tags))

-- the row of the device, below so many lanes
unfoldable pub device_text : ℕ → List (List ℕ) → List ℕ
device_text lanes lines =
    numbered (codes "\n<g fill='#579'><text x='36' y='") (19 * lanes + 30) ++ (codes "'>in device</text>"
    ++ (runs_text (Device lanes) (cells_in lines device_place) ++ codes "</g>"))
