-- The word isn't 0 here, and its tags are all counted.
use Rattle.std.proofs.Common.{arith}
use Rattle.device_choice.proofs.OrdersLemmas.{draw_has_fallen}
use Rattle.device_choice.proofs.order.drawn.Goals as goal

pub returns : goal.returns
returns c = absurd (draw_has_fallen c.args.set c.args.draw c.loop-tag.below c.loop-tag.tag (omega arith) (omega arith) (omega arith) c.loop-tag.invariant)
