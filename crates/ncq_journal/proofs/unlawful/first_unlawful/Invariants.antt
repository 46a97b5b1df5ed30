-- the events so far are lawful, and these are the states of the tags after them
use Rattle.ncq_journal.proofs.KindLemmas.{IsPassed}
use Rattle.ncq_journal.proofs.unlawful.first_unlawful.Given as goal

abbrev pub invariant-loop-place : goal.invariant-loop-place
invariant-loop-place g l = IsPassed g.E.NamesEvent.event l.sectors l.depth l.events l.place l.tags
