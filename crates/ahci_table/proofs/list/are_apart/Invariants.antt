-- The pieces that are left decide.
use Rattle.std.proofs.Common.{◌≡◌, drop}
use Rattle.ahci_table.specs.Piece.{are_apart}
use Rattle.ahci_table.proofs.list.are_apart.Given as goal

abbrev pub invariant-loop-index : goal.invariant-loop-index
invariant-loop-index l = are_apart (drop l.index l.pieces) ≡ are_apart l.pieces
