use Rattle.hba_memory.proofs.ProcessingLemmas.{by_an_entry}
use Rattle.hba_memory.proofs.laws.an_entry_is_processed_with_its_last_byte.Goals as goal

pub returns : goal.returns
returns c = by_an_entry
