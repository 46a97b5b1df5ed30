-- What is there, and what the pieces that are left have, is the whole text.
use Rattle.std.proofs.Common.{◌≡◌, ◌++◌, drop}
use Rattle.ahci_table.specs.Text.{joined}
use Rattle.ahci_table.proofs.runs.joined.Given as goal

abbrev pub invariant-loop-piece : goal.invariant-loop-piece
invariant-loop-piece g l = l.text.items ++ joined (drop l.piece-index l.pieces) l.bytes ≡ joined l.pieces l.bytes
