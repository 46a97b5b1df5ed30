use Rattle.ncq_journal.proofs.PhaseLemmas.{free_past_depth}
use Rattle.ncq_journal.proofs.laws.a_tag_past_the_depth_is_free.Goals as goal

pub returns : goal.returns
returns c = free_past_depth
