-- no tag so far has such a write
use Rattle.std.proofs.Common.{ℕ, ◌<◌}
use Rattle.ncq_journal.specs.History.{history_of}
use Rattle.power_loss.specs.Leaving.{OutstandingMayLeave}
use Rattle.power_loss.proofs.left.some_may_leave.Given as goal

abbrev pub invariant-loop-tag : goal.invariant-loop-tag
invariant-loop-tag g l = (t : ℕ) → t < l.tag → OutstandingMayLeave (history_of l.events) l.lba l.bytes t → ⊥
