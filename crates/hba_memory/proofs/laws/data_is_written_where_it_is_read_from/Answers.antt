use Rattle.hba_memory.proofs.RunLemmas.{runs-placed}
use Rattle.hba_memory.proofs.laws.data_is_written_where_it_is_read_from.Goals as goal

pub returns : goal.returns
returns c = runs-placed
