use Rattle.ncq_journal.proofs.EntryLemmas.{lawful_at_each}
use Rattle.ncq_journal.proofs.laws.a_journal_is_lawful_at_each_entry.Goals as goal

pub returns : goal.returns
returns c = lawful_at_each
