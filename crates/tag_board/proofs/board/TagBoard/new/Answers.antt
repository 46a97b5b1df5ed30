use Rattle.std.proofs.Common.{refl, arith, sym, ap, ◌∙◌, ◌<◌, ◌^◌}
use Rattle.word_bits.specs.Places.{bits}
use Rattle.word_bits.proofs.BitsLemmas.{bits_zero}
use Rattle.tag_board.proofs.PartitionLemmas.{opens}
use Rattle.tag_board.proofs.StepLemmas.{tags_after, slots_after}
use Rattle.tag_board.proofs.board.TagBoard.new.Goals as goal

pub of_words-requires : goal.of_words-requires
of_words-requires g c =
    let fits : c.from.result < 2 ^ 32 = omega arith in
    (refl, opens c.args.depth c.from.result c.requires.high fits (ap bits c.from.ensures ∙ c.below.ensures.set))

pub invariant_of-result-2 : goal.invariant_of-result-2
invariant_of-result-2 g c =
    let me = c.in_ok-table.ensures.4 in (bits_zero ∙ sym (tags_after _ _ me), slots_after _ _ me)
