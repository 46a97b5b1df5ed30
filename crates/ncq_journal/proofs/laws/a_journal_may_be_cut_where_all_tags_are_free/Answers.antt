use Rattle.ncq_journal.proofs.PartLemmas.{two_parts}
use Rattle.ncq_journal.proofs.laws.a_journal_may_be_cut_where_all_tags_are_free.Goals as goal

pub returns : goal.returns
returns c = two_parts
