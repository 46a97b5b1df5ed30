-- One piece more.
use Rattle.ahci_draw.proofs.PieceLemmas.{next_piece}
use Rattle.ahci_draw.proofs.text.push_pieces.Goals as goal

pub loop-piece-preserved : goal.loop-piece-preserved
loop-piece-preserved g c = next_piece _ _ _ c.args.pieces.now c.loop-piece.piece-index _ c.loop-piece-test.true c.loop-piece.invariant c.in_ok-push_piece.ensures
