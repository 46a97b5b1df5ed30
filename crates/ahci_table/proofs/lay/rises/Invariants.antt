-- The pieces rise where those that are left do, after the last.
use Rattle.std.proofs.Common.{◌≡◌, drop}
use Rattle.ahci_table.specs.Laying.{rises}
use Rattle.ahci_table.proofs.lay.rises.Given as goal

abbrev pub invariant-loop-piece : goal.invariant-loop-piece
invariant-loop-piece l = rises l.end (drop l.piece-index l.pieces) ≡ rises l.place l.pieces
