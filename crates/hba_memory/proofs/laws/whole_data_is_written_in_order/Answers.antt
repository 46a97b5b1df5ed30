use Rattle.hba_memory.proofs.RunLemmas.{concat-placed}
use Rattle.hba_memory.proofs.laws.whole_data_is_written_in_order.Goals as goal

pub returns : goal.returns
returns c = concat-placed
