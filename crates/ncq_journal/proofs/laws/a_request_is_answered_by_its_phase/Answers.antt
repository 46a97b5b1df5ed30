use Rattle.ncq_journal.proofs.AnsweredLemmas.{answered_by_phase}
use Rattle.ncq_journal.proofs.laws.a_request_is_answered_by_its_phase.Goals as goal

pub returns : goal.returns
returns c = answered_by_phase
