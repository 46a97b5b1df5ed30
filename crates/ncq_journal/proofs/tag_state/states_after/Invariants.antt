-- the states of the tags so far
use Rattle.std.proofs.Common.{◌∷◌}
use Rattle.ncq_journal.specs.EventKind.{entry_of_kind, journal_of}
use Rattle.ncq_journal.specs.TagState.{no_state, state_of}
use Rattle.ncq_journal.proofs.FilledLemmas.{IsFilled}
use Rattle.ncq_journal.proofs.tag_state.states_after.Given as goal

abbrev pub invariant-loop-tag : goal.invariant-loop-tag
invariant-loop-tag g l = IsFilled no_state (state_of (entry_of_kind l.kind ∷ journal_of g.E.NamesEvent.event l.past)) l.next l.tag
