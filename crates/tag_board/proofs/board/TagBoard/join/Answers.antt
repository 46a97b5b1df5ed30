use Rattle.std.proofs.Common.{rules, sym, ◌∙◌}
use Rattle.tag_board.proofs.SetLemmas.{bits_union}
use Rattle.tag_board.proofs.StepLemmas.{tags_after, slots_after, joins}
use Rattle.tag_board.proofs.board.TagBoard.join.Goals as goal

pub join_seat-requires : goal.join_seat-requires
join_seat-requires g c = (search rules, search rules, c.other.invariant.1, search rules, joins _ _ _ _ _ _)

pub invariant_of-seat : goal.invariant_of-seat
invariant_of-seat g c =
    let me = c.join_seat.ensures.2 in
    (bits_union _ _ _ _ c.seat.invariant.0 c.other.invariant.0 ∙ sym (tags_after _ _ me), slots_after _ _ me ∙ c.seat.invariant.1)
