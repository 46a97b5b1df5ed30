-- the entries so far have moved whole, and none of them has I
use Rattle.std.proofs.Common.{◌≡◌, ◌≤◌, ◌-◌, drop, length}
use Rattle.hba_memory.specs.Processing.{has_processed}
use Rattle.hba_memory.proofs.processed.has_processed.Given as goal

abbrev pub invariant-loop-at : goal.invariant-loop-at
invariant-loop-at l = (l.at ≤ length l.list) × (has_processed l.list l.moved ≡ has_processed (drop l.at l.list) l.left)

abbrev pub decreases-loop-at : goal.decreases-loop-at
decreases-loop-at l = length l.list - l.at
