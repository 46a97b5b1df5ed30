use Rattle.ncq_journal.proofs.AnsweredLemmas.{completed_is_answered, failed_is_not_completed}
use Rattle.ncq_journal.proofs.laws.a_failed_command_has_changed_no_sector.Goals as goal

pub returns-clause-completed : goal.returns-clause-completed
returns-clause-completed c = completed_is_answered

pub returns-clause-failed : goal.returns-clause-failed
returns-clause-failed c = failed_is_not_completed
