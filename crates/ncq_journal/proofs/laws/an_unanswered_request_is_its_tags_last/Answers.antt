use Rattle.ncq_journal.proofs.AnsweredLemmas.{unanswered_is_last}
use Rattle.ncq_journal.proofs.laws.an_unanswered_request_is_its_tags_last.Goals as goal

pub returns : goal.returns
returns c = unanswered_is_last
