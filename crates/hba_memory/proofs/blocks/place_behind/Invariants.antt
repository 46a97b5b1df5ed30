-- the bytes that are left are to be passed behind the entries so far
use Rattle.std.proofs.Common.{◌≡◌, ◌≤◌, ◌-◌, drop, length}
use Rattle.hba_memory.specs.Blocks.{list_after}
use Rattle.hba_memory.proofs.blocks.place_behind.Given as goal

abbrev pub invariant-loop-at : goal.invariant-loop-at
invariant-loop-at l = (l.at ≤ length l.list) × (list_after (drop l.start l.list) l.bytes ≡ list_after (drop l.at l.list) l.left)

abbrev pub decreases-loop-at : goal.decreases-loop-at
decreases-loop-at l = length l.list - l.at
