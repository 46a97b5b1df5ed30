use Rattle.std.proofs.Common.{rules, subst}
use Rattle.tag_board.specs.Partition.{Stands}
use Rattle.tag_board.specs.Board.{Seated, view_of}
use Rattle.tag_board.proofs.BoardLemmas.{free_beside}
use Rattle.tag_board.proofs.StepLemmas.{closes}
use Rattle.tag_board.proofs.board.TagBoard.close.Goals as goal

pub returns-clause-word : goal.returns-clause-word
returns-clause-word g c =
    free_beside c.args.seat c.word-word.result
    (subst (λ (s : Seated). Stands c.word-word.result (view_of s)) c.seat.view_is (closes _ _ _ c.seat.inside.place.me.0 _ _ (search rules) c.close_with-closed.ensures.values.2 c.word-word.ensures))
