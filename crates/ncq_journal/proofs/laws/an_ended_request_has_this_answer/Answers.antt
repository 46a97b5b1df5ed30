use Rattle.ncq_journal.proofs.AnsweredLemmas.{completed_has_this_answer, failed_has_this_answer}
use Rattle.ncq_journal.proofs.laws.an_ended_request_has_this_answer.Goals as goal

pub returns-clause-completed : goal.returns-clause-completed
returns-clause-completed c = completed_has_this_answer

pub returns-clause-failed : goal.returns-clause-failed
returns-clause-failed c = failed_has_this_answer
