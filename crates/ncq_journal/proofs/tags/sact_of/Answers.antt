use Rattle.ncq_journal.specs.Tags.{in_sact}
use Rattle.ncq_journal.proofs.tags.sact_of.Goals as goal

pub returns : goal.returns
returns g c = c.tags_in.ensures in_sact (λ p b h. h.1)
