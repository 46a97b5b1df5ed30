-- what is left of the draw, with the tags of the set so far, is the draw's number
use Rattle.std.proofs.Common.{◌≡◌, ◌+◌, ◌%◌}
use Rattle.word_bits.specs.Places.{bits}
use Rattle.device_choice.specs.Orders.{count_in, count_below}
use Rattle.device_choice.proofs.order.drawn.Given as goal

abbrev pub invariant-loop-tag : goal.invariant-loop-tag
invariant-loop-tag l = l.below + count_below (bits l.set) l.tag ≡ l.draw % count_in (bits l.set)
