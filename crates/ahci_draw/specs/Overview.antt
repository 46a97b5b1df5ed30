-- The overview of a picture of more than a thousand entries: a strip as wide as a row, which holds all of them, with a mark for each
-- place that has a failure and for each that has a recovery. The rows are below it, and have numbers.
use Rattle.std.specs.Prelude.{ℕ, ◌+◌, ◌-◌, ◌*◌, ◌/◌, ◌==◌, nat_le, if◌then◌else◌, List, [], ◌++◌, codes, flat_map, length, slice_index_or, Option, None, Some}
use Rattle.std.specs.List.{range_with_len}
use Rattle.ahci_draw.specs.Grid.{grid_text}
use Rattle.ahci_draw.specs.Lanes.{cells_in}
use Rattle.ahci_draw.specs.Lines.{label_of, sign_place, title_of}
use Rattle.ahci_draw.specs.Places.{count_of, edge, first_of, part_of}
use Rattle.ahci_draw.specs.Row.{row_left, row_top, rows_in, rows_text}
use Rattle.ahci_draw.specs.Signs.{label_at}
use Rattle.ahci_draw.specs.Text.{numbered}

-- how far down the overview of so many columns moves the rows; a picture of a thousand and fewer has none
abbrev pub overview_height : ℕ → ℕ
overview_height columns = if nat_le columns 1000 then 0 else 88

-- the line of the entry of an index
abbrev pub line_at : List (List ℕ) → ℕ → List ℕ
line_at lines index = slice_index_or lines index []

-- ---- marks

-- a failure's mark is red and in the upper lane, a recovery's is violet and in the lower one
abbrev pub mark_colour : ℕ → List ℕ
mark_colour sign = if sign == 88 then codes "e55" else codes "96d"

abbrev pub mark_top : ℕ → ℕ
mark_top sign = if sign == 88 then 24 else 40

-- how many more entries a mark has
abbrev pub more_text : ℕ → List ℕ
more_text more = if more == 0 then [] else numbered (codes " and ") more ++ codes " more"

-- the beginning of a mark. A pointer shows its title: the row of an entry, the entry in words, and how many more the mark has
unfoldable pub mark_head : List ℕ → (place top index : ℕ) → List ℕ
mark_head colour place top index =
    codes "<path stroke-width='2' stroke='#" ++ (colour ++ (numbered (codes "' d='M") (place + 72) ++ (numbered (codes " ") top
    ++ (numbered (codes "v16'><title>row ") (index / 100 + 1) ++ codes ", "))))

unfoldable pub mark_shape : (sign place index : ℕ) → List ℕ → ℕ → List ℕ
mark_shape sign place index title more =
    mark_head (mark_colour sign) place (mark_top sign) index ++ (title ++ (more_text more ++ codes "</title></path>"))

-- the mark of all entries of a sign at a place, with the words of the first
abbrev pub mark_from : (sign place : ℕ) → List ℕ → List (List ℕ) → Option ℕ → List ℕ
mark_from sign place signs lines None = []
mark_from sign place signs lines (Some first) =
    mark_shape sign place (edge (length signs) place + first) (title_of (line_at lines (edge (length signs) place + first)))
    (count_of sign (part_of signs place) - 1)

abbrev pub mark_at : (sign : ℕ) → List ℕ → List (List ℕ) → ℕ → List ℕ
mark_at sign signs lines place = mark_from sign place signs lines (first_of sign (part_of signs place))

unfoldable pub marks_text : (sign : ℕ) → List ℕ → List (List ℕ) → List ℕ
marks_text sign signs lines = flat_map (mark_at sign signs lines) (range_with_len 0 1200)

-- ---- the strip, and what is counted

-- the number of the first entry from each tenth of the strip on
abbrev pub tenth_at : List (List ℕ) → ℕ → List ℕ
tenth_at lines ten = label_at (10 * ten) (line_at lines (edge (length lines) (120 * ten)))

unfoldable pub tenths_text : List (List ℕ) → List ℕ
tenths_text lines = flat_map (tenth_at lines) (range_with_len 0 10)

-- the number of the first failure
abbrev pub failure_label : List (List ℕ) → Option ℕ → List ℕ
failure_label lines None = codes "none"
failure_label lines (Some index) = label_of (title_of (line_at lines index))

unfoldable pub counts_shape : (entries rows failures recoveries : ℕ) → List ℕ → List ℕ
counts_shape entries rows failures recoveries first =
    numbered (codes "\n<text x='8' y='94' font-size='13' text-anchor='start'>overview: entries: ") entries ++ (numbered (codes ", rows: ") rows
    ++ (numbered (codes ", failures: ") failures ++ (numbered (codes ", recoveries: ") recoveries ++ (codes ", first failure: " ++ (first ++ codes "</text>")))))

abbrev pub counts_text : List ℕ → List (List ℕ) → List ℕ
counts_text signs lines =
    counts_shape (length signs) (rows_in (length signs)) (count_of 88 signs) (count_of 86 signs) (failure_label lines (first_of 88 signs))

abbrev pub names_text : List ℕ
names_text = codes "<text x='36' y='35'>failures</text><text x='36' y='51'>recoveries</text>"

-- two lanes, as a row has them, with the marks
unfoldable pub strip_text : List ℕ → List (List ℕ) → List ℕ
strip_text signs lines = grid_text 2 100 ++ (tenths_text lines ++ (names_text ++ (marks_text 88 signs lines ++ marks_text 86 signs lines)))

unfoldable pub overview_of : List ℕ → List (List ℕ) → List ℕ
overview_of signs lines = counts_text signs lines ++ (codes "\n<g transform='translate(0 104)'>" ++ (strip_text signs lines ++ codes "</g>"))

abbrev pub overview_text : List (List ℕ) → List ℕ
overview_text lines = overview_of (cells_in lines sign_place) lines

-- ---- the rows below it

-- the number of a row, from 1 on
unfoldable pub row_name : (lanes row : ℕ) → List ℕ
row_name lanes row =
    numbered (codes "\n<text x='") (row_left row + 36) ++ (numbered (codes "' y='") (row_top lanes row + 20) ++ (numbered (codes "'>row ") (row + 1) ++ codes "</text>"))

unfoldable pub row_names : (lanes rows : ℕ) → List ℕ
row_names lanes rows = flat_map (row_name lanes) (range_with_len 0 rows)

-- an overview, and the rows
unfoldable pub long_text : List ℕ → List (List ℕ) → List ℕ
long_text tags lines =
    overview_text lines ++ (codes "\n<g transform='translate(0 88)'>" ++ (row_names (length tags) (rows_in (length lines)) ++ (rows_text tags lines ++ codes "\n</g>")))

-- the rows of these lines, below an overview if there are more than a thousand
abbrev pub body_text : List ℕ → List (List ℕ) → List ℕ
body_text tags lines = if nat_le (length lines) 1000 then rows_text tags lines else long_text tags lines
