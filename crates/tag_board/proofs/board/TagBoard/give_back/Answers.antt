use Rattle.std.proofs.Common.{length, sym, ap, ◌∙◌}
use Rattle.word_bits.specs.Places.{has_place}
use Rattle.word_bits.proofs.BitsLemmas.{length-bits}
use Rattle.tag_board.proofs.SetLemmas.{place-lt}
use Rattle.tag_board.proofs.board.TagBoard.give_back.Goals as goal

pub fetch_or-requires-clause-below : goal.fetch_or-requires-clause-below
fetch_or-requires-clause-below g c =
    place-lt c.seat.inside.place.me.0.tags c.args.tag (ap length (sym c.seat.invariant.0) ∙ length-bits c.seat.inside.held)
    (ap (λ s. has_place s.tags c.args.tag) c.seat.view_is ∙ c.requires.held)
