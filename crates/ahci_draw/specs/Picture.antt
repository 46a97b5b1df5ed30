-- The picture that a listing gives.
use Rattle.std.specs.Prelude.{ℕ, List, ◌++◌, codes, length}
use Rattle.ahci_draw.specs.Heading.{heading_text}
use Rattle.ahci_draw.specs.Lanes.{tags_in}
use Rattle.ahci_draw.specs.Lines.{lines_from}
use Rattle.ahci_draw.specs.Overview.{body_text}

-- the picture of these lines, each of which is an entry, with lanes for these tags
unfoldable pub picture_with : List ℕ → List (List ℕ) → List ℕ
picture_with tags lines = heading_text (length lines) (length tags) ++ (body_text tags lines ++ codes "\n</svg>")

-- a lane for each tag that some entry is about
abbrev pub picture_of : List (List ℕ) → List ℕ
picture_of lines = picture_with (tags_in lines) lines

-- the picture of a listing's entries from one number to another, without its last line feed
abbrev pub picture_text : (from to : ℕ) → List ℕ → List ℕ
picture_text from to listing = picture_of (lines_from from to listing)
