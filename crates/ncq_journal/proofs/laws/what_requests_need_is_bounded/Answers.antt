use Rattle.ncq_journal.proofs.OwedLemmas.{owed_is_few, owed_moves}
use Rattle.ncq_journal.proofs.laws.what_requests_need_is_bounded.Goals as goal

pub returns-clause-few : goal.returns-clause-few
returns-clause-few c = owed_is_few

pub returns-clause-moves : goal.returns-clause-moves
returns-clause-moves c = owed_moves
