use Rattle.hba_memory.proofs.ProcessingLemmas.{in_two_parts}
use Rattle.hba_memory.proofs.laws.blocks_process_what_the_whole_does.Goals as goal

pub returns : goal.returns
returns c = in_two_parts
