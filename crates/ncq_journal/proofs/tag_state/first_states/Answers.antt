use Rattle.ncq_journal.proofs.KindLemmas.{no_states}
use Rattle.ncq_journal.proofs.tag_state.first_states.Goals as goal

pub returns : goal.returns
returns c = no_states
