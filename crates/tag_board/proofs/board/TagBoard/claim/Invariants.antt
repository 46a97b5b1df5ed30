use Rattle.std.proofs.Common.{◌≡◌}
use Rattle.tag_board.specs.View.{missed}
use Rattle.tag_board.proofs.board.TagBoard.claim.Given as goal

-- the tags below were tried in vain
abbrev pub invariant-loop-tag : goal.invariant-loop-tag
invariant-loop-tag g l =
    (l.seat.board ≡ l.initial.seat.board) × (l.seat.tags ≡ l.initial.seat.tags) × (l.seat.log ≡ missed l.tag l.initial.seat.log)
