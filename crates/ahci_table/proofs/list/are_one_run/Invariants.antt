-- The pieces are one run where those that are left are, after the last.
use Rattle.std.proofs.Common.{◌≡◌, drop}
use Rattle.ahci_table.specs.Piece.{are_one_run}
use Rattle.ahci_table.proofs.list.are_one_run.Given as goal

abbrev pub invariant-loop-piece : goal.invariant-loop-piece
invariant-loop-piece l = are_one_run l.end (drop l.piece-index l.pieces) ≡ are_one_run l.place l.pieces
