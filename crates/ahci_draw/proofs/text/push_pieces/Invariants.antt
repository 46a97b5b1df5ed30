-- The text so far, and the pieces that are left, are the whole.
use Rattle.std.proofs.Common.{◌≡◌, ◌++◌, drop}
use Rattle.ahci_draw.specs.Text.{shape}
use Rattle.ahci_draw.proofs.text.push_pieces.Given as goal

abbrev pub invariant-loop-piece : goal.invariant-loop-piece
invariant-loop-piece g l = l.text.bytes ++ shape (drop l.piece-index l.pieces) ≡ l.initial.text.bytes ++ shape l.pieces
