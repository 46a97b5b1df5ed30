-- The journal's new entries. A command adds one, or a Complete for each tag that it serves, so the newest one says what kind
-- of command it was.
use Rattle.std.specs.Prelude.{ℕ, ◌-◌, List, length, filter_map, max, nat_le, if◌then◌else◌, Option, None}
use Rattle.std.specs.List.{range_with_len}
use Rattle.std.specs.Option.{option_map}
use Rattle.ncq_journal.specs.Entry.{Entry}
use Rattle.ncq_journal.specs.EventKind.{kind_of}
use Rattle.ncq_journal.specs.Numbering.{entry_numbered, number_of}
use Rattle.ahci_trace.specs.declared.appended.Appended.{Appended}
use Rattle.ncq_journal.specs.declared.event_kind.EventKind.{EventKind}
use Rattle.ahci_trace.specs.declared.mark.Mark.{Mark}

-- the entry of a number, where there is one
abbrev pub appended_at : ℕ → List Entry → ℕ → Option Appended
appended_at first past number =
    option_map (λ entry. record { number = number; what = kind_of entry }) (entry_numbered first past number)

-- the entries from a number on, each with its number, the oldest first
abbrev pub entries_from : ℕ → ℕ → List Entry → List Appended
entries_from start first past =
    filter_map (appended_at first past) (range_with_len start (number_of first (length past) - start))

-- the entries that came after a mark; a journal that was trimmed has none before its first
abbrev pub new_entries : Mark → ℕ → List Entry → List Appended
new_entries mark first past = entries_from (max mark.end first) first past

-- the newest of them, where there is one
abbrev pub newest : Mark → ℕ → List Entry → Option EventKind
newest mark first past =
    if nat_le (number_of first (length past)) mark.end then None else option_map kind_of (entry_numbered first past (number_of first (length past) - 1))
