use Rattle.ncq_journal.proofs.PartLemmas.{device_tags_in_sact, ci_tags_in_sact}
use Rattle.ncq_journal.proofs.laws.outstanding_tags_are_active.Goals as goal

pub returns-clause-device : goal.returns-clause-device
returns-clause-device c = device_tags_in_sact

pub returns-clause-ci : goal.returns-clause-ci
returns-clause-ci c = ci_tags_in_sact
