-- each tag so far was named, and is not left
use Rattle.std.proofs.Common.{◌≡◌, ◌+◌, length}
use Rattle.word_bits.specs.Places.{bits}
use Rattle.device_choice.specs.Orders.{count_in}
use Rattle.device_choice.proofs.TurnsLemmas.{GoesOn}
use Rattle.device_choice.proofs.turn.named.Given as goal

abbrev pub invariant-loop-at : goal.invariant-loop-at
invariant-loop-at l = record {
  goes_on : GoesOn l.order l.draws l.most l.at (bits l.set) (bits l.left) l.tags.items;
  room : length l.tags.items ≡ l.at;
  count : count_in (bits l.left) + l.at ≡ count_in (bits l.set);
}
