-- none so far is to fail
use Rattle.std.proofs.Common.{◌≡◌, ℕ, ◌<◌, get_or, false}
use Rattle.word_bits.specs.Places.{bits, has_place}
use Rattle.device_choice.proofs.turn.before_failing.Given as goal

abbrev pub invariant-loop-at : goal.invariant-loop-at
invariant-loop-at l = (k : ℕ) → k < l.at → has_place (bits l.failing) (get_or l.tags k 0) ≡ false
