-- none of the tags so far is in the set
use Rattle.word_bits.specs.Places.{bits}
use Rattle.device_choice.proofs.OrdersLemmas.{NoneBefore}
use Rattle.device_choice.proofs.order.next_from.Given as goal

abbrev pub invariant-loop-step : goal.invariant-loop-step
invariant-loop-step l = NoneBefore l.draw (bits l.set) l.step
