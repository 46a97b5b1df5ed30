use Rattle.std.proofs.Common.{rules, sym, ◌∙◌}
use Rattle.word_bits.proofs.BitsLemmas.{bits_zero}
use Rattle.tag_board.proofs.StepLemmas.{tags_after, slots_after, splits}
use Rattle.tag_board.proofs.board.TagBoard.split.Goals as goal

pub split_seat-place-requires : goal.split_seat-place-requires
split_seat-place-requires g c = (search rules, search rules, splits _ _ _ _ _)

pub invariant_of-result : goal.invariant_of-result
invariant_of-result g c =
    let me = c.split_seat-place.ensures.4 in (bits_zero ∙ sym (tags_after _ _ me), slots_after _ _ me)
