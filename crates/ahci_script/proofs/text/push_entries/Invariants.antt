use Rattle.std.proofs.Common.{◌≡◌, ◌+◌, ◌-◌, ◌*◌, ◌≤◌, ◌++◌}
use Rattle.ahci_script.specs.Answers.{entries_between, numbers_text}
use Rattle.ahci_script.proofs.text.push_entries.Given as goal

-- the first entries are appended
abbrev pub invariant-loop-entry : goal.invariant-loop-entry
invariant-loop-entry g l =
    (l.text.bytes ≡ l.initial.text.bytes ++ numbers_text (entries_between l.first l.entry))
    × (l.entry - l.first ≤ l.end - l.first) × (l.initial.text.room ≤ l.text.room + 21 * (l.entry - l.first))
