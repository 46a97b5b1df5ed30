use Rattle.ncq_journal.specs.Tags.{in_ci}
use Rattle.ncq_journal.proofs.tags.ci_of.Goals as goal

pub returns : goal.returns
returns g c = c.tags_in.ensures in_ci (λ p b h. h.1)
