-- the sectors so far
use Rattle.std.proofs.Common.{◌≡◌}
use Rattle.ncq_journal.specs.Answer.{sectors_at}
use Rattle.ncq_journal.specs.History.{history_of}
use Rattle.ncq_journal.proofs.answer.sectors_at.Given as goal

abbrev pub invariant-loop-i : goal.invariant-loop-i
invariant-loop-i g l = l.bytes.items ≡ sectors_at l.image (history_of l.events) l.lba l.i
