-- The end so far and that of the pieces that are left make that of all.
use Rattle.std.proofs.Common.{◌≡◌, max, drop}
use Rattle.ahci_table.specs.Piece.{furthest}
use Rattle.ahci_table.proofs.list.furthest.Given as goal

abbrev pub invariant-loop-piece : goal.invariant-loop-piece
invariant-loop-piece l = max l.end (furthest (drop l.piece-index l.pieces)) ≡ furthest l.pieces
