use Rattle.std.proofs.Common.{◌≡◌, ◌+◌, ◌*◌, ◌≤◌, ◌++◌}
use Rattle.ahci_script.specs.Answers.{sectors_text}
use Rattle.ahci_script.proofs.text.push_sectors.Given as goal

-- the first sectors are appended
abbrev pub invariant-loop-i : goal.invariant-loop-i
invariant-loop-i g l =
    (l.text.bytes ≡ l.initial.text.bytes ++ sectors_text l.bytes l.i) × (l.initial.text.room ≤ l.text.room + 3 * l.i)
