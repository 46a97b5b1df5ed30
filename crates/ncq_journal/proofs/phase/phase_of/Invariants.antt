-- the phase so far is that of the events so far
use Rattle.std.proofs.Common.{◌≡◌, take}
use Rattle.ncq_journal.specs.History.{history_of}
use Rattle.ncq_journal.specs.Phase.{phase}
use Rattle.ncq_journal.proofs.phase.phase_of.Given as goal

abbrev pub invariant-loop-event : goal.invariant-loop-event
invariant-loop-event g l = l.phase ≡ phase (history_of (take l.event-index l.events)) l.tag
