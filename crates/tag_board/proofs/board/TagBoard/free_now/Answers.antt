use Rattle.std.proofs.Common.{subst}
use Rattle.tag_board.specs.Partition.{Stands}
use Rattle.tag_board.specs.Board.{Seated, view_of}
use Rattle.tag_board.proofs.BoardLemmas.{free_beside}
use Rattle.tag_board.proofs.board.TagBoard.free_now.Goals as goal

pub returns-clause-word : goal.returns-clause-word
returns-clause-word g c =
    free_beside c.args.seat.now c.load.result (subst (λ (s : Seated). Stands c.load.result (view_of s)) c.seat.view_is c.load.ensures.before)
