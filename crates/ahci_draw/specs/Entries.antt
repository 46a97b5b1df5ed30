-- The lines of entries that follow each other.
use Rattle.std.specs.Prelude.{ℕ, suc, zero, ◌+◌, List, [], ◌++◌, Option, None, Some}
use Rattle.ncq_journal.specs.Entry.{Entry}
use Rattle.ncq_journal.specs.Numbering.{entry_numbered}
use Rattle.ahci_draw.specs.Line.{entry_line}
use Rattle.ahci_draw.specs.Tags.{moved}
use Rattle.ahci_draw.specs.declared.tag_state.TagState.{TagState}

-- the tags after an entry, where there is one
abbrev pub moved_by : List TagState → Option Entry → List TagState
moved_by tags None = tags
moved_by tags (Some entry) = moved tags entry

-- its line, with the tags before it
abbrev pub line_of : ℕ → List TagState → Option Entry → List ℕ
line_of number tags None = []
line_of number tags (Some entry) = entry_line number (moved tags entry) entry

-- the lines of so many entries from a number on; before them the tags had these states
unfoldable pub entries_text : (first : ℕ) (past : List Entry) → List TagState → ℕ → ℕ → List ℕ
entries_text first past tags number zero = []
entries_text first past tags number (suc more) =
    line_of number tags (entry_numbered first past number)
    ++ entries_text first past (moved_by tags (entry_numbered first past number)) (number + 1) more
