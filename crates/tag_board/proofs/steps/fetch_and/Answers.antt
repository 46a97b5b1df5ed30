use Rattle.std.proofs.Common.{arith, sym, ap, ◌∙◌}
use Rattle.std.specs.Int.{w32, bit_not}
use Rattle.tag_board.proofs.StepLemmas.{tries, free_apart}
use Rattle.tag_board.proofs.steps.fetch_and.Goals as goal

pub fetch_and-found-requires : goal.fetch_and-found-requires
fetch_and-found-requires c =
    (c.requires.own, omega arith, tries _ _ _ c.args.tag _ _ c.requires.depth c.requires.below c.requires.tags (ap (bit_not w32) c.place-others.ensures.value))

pub returns-clause-fresh : goal.returns-clause-fresh
returns-clause-fresh c =
    let told = c.fetch_and-found.ensures.2 c.args.tag c.requires.below (ap (bit_not w32) c.place-others.ensures.value) in
    λ had. free_apart _ _ _ told.0 (sym c.is_set.ensures ∙ had)
