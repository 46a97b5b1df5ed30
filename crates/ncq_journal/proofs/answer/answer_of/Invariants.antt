-- the answer so far is that of the events so far
use Rattle.std.proofs.Common.{◌≡◌, take}
use Rattle.ncq_journal.specs.Answer.{answer}
use Rattle.ncq_journal.specs.History.{history_of}
use Rattle.ncq_journal.proofs.answer.answer_of.Given as goal

abbrev pub invariant-loop-entry : goal.invariant-loop-entry
invariant-loop-entry g l = l.answer ≡ answer l.image (history_of (take l.entry l.events)) l.number
