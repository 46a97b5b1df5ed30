-- Each of the 32 places was looked at here.
use Rattle.std.proofs.Common.{arith}
use Rattle.device_choice.proofs.OrdersLemmas.{round_is_over}
use Rattle.device_choice.proofs.order.next_from.Goals as goal

pub returns : goal.returns
returns c = round_is_over c.args.draw c.args.set c.loop-step.step c.loop-step.invariant (omega arith)
