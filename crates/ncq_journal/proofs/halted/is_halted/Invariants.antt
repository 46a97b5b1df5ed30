-- none of the tags so far
use Rattle.std.proofs.Common.{◌≡◌, ℕ, ◌<◌, false}
use Rattle.ncq_journal.specs.History.{history_of}
use Rattle.ncq_journal.specs.Phase.{phase, is_failed}
use Rattle.ncq_journal.proofs.halted.is_halted.Given as goal

abbrev pub invariant-loop-tag : goal.invariant-loop-tag
invariant-loop-tag g l = (t : ℕ) → t < l.tag → is_failed (phase (history_of l.events) t) ≡ false
