use Rattle.std.proofs.Common.{◌≡◌}
use Rattle.board_tests.proofs.alone.a_board_has_as_many_tags_as_its_depth.Given as goal

-- the seat is still of the board
abbrev pub invariant-loop-tag : goal.invariant-loop-tag
invariant-loop-tag g l = l.seat.board ≡ l.board
