use Rattle.ncq_journal.proofs.FailedLemmas.{busy_by_a_tag, halted_by_a_tag, one_has_failed}
use Rattle.ncq_journal.proofs.laws.at_most_one_command_has_failed.Goals as goal

pub returns-clause-one : goal.returns-clause-one
returns-clause-one c = one_has_failed

pub returns-clause-halted : goal.returns-clause-halted
returns-clause-halted c = halted_by_a_tag

pub returns-clause-busy : goal.returns-clause-busy
returns-clause-busy c = busy_by_a_tag
