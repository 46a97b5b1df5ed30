use Rattle.std.proofs.Common.{◌≡◌}
use Rattle.board_tests.proofs.alone.gives_all_back.Given as goal

-- the seat is still of the board
abbrev pub invariant-loop-tag : goal.invariant-loop-tag
invariant-loop-tag l = l.seat.board ≡ l.board
