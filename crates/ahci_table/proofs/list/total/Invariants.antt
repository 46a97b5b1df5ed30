-- The bytes so far and those of the pieces that are left are those of all.
use Rattle.std.proofs.Common.{◌≡◌, ◌≤◌, ◌+◌, ◌*◌, drop}
use Rattle.ahci_table.specs.Piece.{total}
use Rattle.ahci_table.proofs.list.total.Given as goal

abbrev pub invariant-loop-piece : goal.invariant-loop-piece
invariant-loop-piece l = (l.bytes + total (drop l.piece-index l.pieces) ≡ total l.pieces) × (l.bytes ≤ 4294967296 * l.piece-index)
