-- The text so far, and the lines that are left, are the whole.
use Rattle.std.proofs.Common.{◌≡◌, ◌++◌, ◌-◌, length}
use Rattle.ncq_journal.specs.Numbering.{number_of}
use Rattle.ahci_draw.specs.Entries.{entries_text}
use Rattle.ahci_draw.proofs.entries.push_entries.Given as goal

abbrev pub invariant-loop-number : goal.invariant-loop-number
invariant-loop-number g l =
    l.text.bytes ++ entries_text l.journal.first l.journal.past l.tags l.number (number_of l.journal.first (length l.journal.past) - l.number)
    ≡ l.initial.text.bytes ++ entries_text l.journal.first l.journal.past l.before l.start (number_of l.journal.first (length l.journal.past) - l.start)
