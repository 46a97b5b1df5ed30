use Rattle.std.proofs.Common.{arith}
use Rattle.tag_board.proofs.StepLemmas.{loads}
use Rattle.tag_board.proofs.steps.load.Goals as goal

pub load-requires : goal.load-requires
load-requires c = (c.requires.own, omega arith, loads _ _ _ _ c.requires.depth)
