use Rattle.std.proofs.Common.{◌≡◌}
use Rattle.board_tests.proofs.alone.two_seats_claim_in_turn_until_the_board_is_full.Given as goal

-- both seats are still of the board
abbrev pub invariant-loop-pair : goal.invariant-loop-pair
invariant-loop-pair g l = (l.first.board ≡ l.board) × (l.second.board ≡ l.board)

abbrev pub invariant-loop-step : goal.invariant-loop-step
invariant-loop-step g l = (l.first.board ≡ l.board) × (l.second.board ≡ l.board)
