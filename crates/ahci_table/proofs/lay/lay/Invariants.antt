-- The pieces that are left take the bytes that are left, and what both make is what all make.
use Rattle.std.proofs.Common.{◌≡◌, ◌++◌, true, length, drop}
use Rattle.ahci_table.specs.Laying.{laid, rises}
use Rattle.ahci_table.specs.Piece.{total}
use Rattle.ahci_table.proofs.lay.lay.Given as goal

abbrev pub invariant-loop-piece : goal.invariant-loop-piece
invariant-loop-piece g l =
    (rises (length l.bytes.items) (drop l.piece-index l.pieces) ≡ true)
    × (total (drop l.piece-index l.pieces) ≡ length l.rest)
    × (l.bytes.items ++ laid (length l.bytes.items) (drop l.piece-index l.pieces) l.rest
    ≡ l.initial.bytes.items ++ laid (length l.initial.bytes.items) l.pieces l.text)
