use Rattle.std.proofs.Common.{◌≡◌, length, sym, ap, ◌∙◌}
use Rattle.word_bits.specs.Places.{has_place}
use Rattle.word_bits.proofs.BitsLemmas.{length-bits}
use Rattle.tag_board.proofs.SetLemmas.{bits_gained, has_gained}
use Rattle.tag_board.proofs.StepLemmas.{tags_after, slots_after}
use Rattle.tag_board.proofs.board.TagBoard.try_tag.Goals as goal

pub fetch_and-had-requires-clause-tags : goal.fetch_and-had-requires-clause-tags
fetch_and-had-requires-clause-tags g c = ap length (sym c.seat.invariant.0) ∙ length-bits c.seat.inside.held

pub invariant_of-seat : goal.invariant_of-seat
invariant_of-seat g c =
    let me = c.fetch_and-had.ensures.view in (
      bits_gained _ c.args.tag _ _ _ c.requires.tag c.place.ensures.value c.seat.invariant.0 c.if-had.true ∙ sym (tags_after _ _ me),
      slots_after _ _ me ∙ c.seat.invariant.1,
    )

pub returns-then-had-clause-has : goal.returns-then-had-clause-has
returns-then-had-clause-has g c = λ had.
    let me = c.fetch_and-had.ensures.view in
    let full : length c.seat.inside.place.me.0.tags ≡ 32 = ap length (sym c.seat.invariant.0) ∙ length-bits c.seat.inside.held in
    ap (λ s. has_place s c.args.tag) (tags_after _ _ me) ∙ has_gained c.seat.inside.place.me.0.tags c.args.tag c.fetch_and-had.result c.requires.tag full had
