use Rattle.ncq_journal.proofs.EntryLemmas.{request_is_its_issue}
use Rattle.ncq_journal.proofs.PhaseLemmas.{owned_has_request}
use Rattle.ncq_journal.proofs.laws.an_owned_tag_has_a_request.Goals as goal

pub returns-clause-has : goal.returns-clause-has
returns-clause-has c = owned_has_request

pub returns-clause-issue : goal.returns-clause-issue
returns-clause-issue c = request_is_its_issue
