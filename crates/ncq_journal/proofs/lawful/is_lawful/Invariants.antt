-- the events so far are lawful
use Rattle.std.proofs.Common.{take}
use Rattle.ncq_journal.specs.History.{history_of}
use Rattle.ncq_journal.specs.Lawful.{IsLawful}
use Rattle.ncq_journal.proofs.lawful.is_lawful.Given as goal

abbrev pub invariant-loop-number : goal.invariant-loop-number
invariant-loop-number g l = IsLawful l.sectors l.depth (history_of (take l.number l.events))
