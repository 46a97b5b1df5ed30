use Rattle.std.proofs.Common.{arith}
use Rattle.tag_board.proofs.SetLemmas.{has_returned}
use Rattle.tag_board.proofs.StepLemmas.{gives_back}
use Rattle.tag_board.proofs.steps.fetch_or.Goals as goal

pub fetch_or-requires : goal.fetch_or-requires
fetch_or-requires c =
    (c.requires.own, omega arith, gives_back _ _ _ c.args.tag _ _ c.requires.depth c.requires.below c.requires.held c.place.ensures.value)

pub returns-clause-after : goal.returns-clause-after
returns-clause-after c =
    let told = c.fetch_or.ensures.2 c.args.tag c.requires.below c.place.ensures.value in
    (_, told.1, has_returned c.fetch_or.result c.args.tag c.place.result c.requires.below c.place.ensures.value)
