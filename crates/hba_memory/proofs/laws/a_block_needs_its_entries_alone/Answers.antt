use Rattle.std.proofs.Common.{◌*◌, arith}
use Rattle.hba_memory.proofs.ProcessingLemmas.{enough}
use Rattle.hba_memory.proofs.laws.a_block_needs_its_entries_alone.Goals as goal

pub returns : goal.returns
returns c = λ b sectors h. enough b.list (256 * sectors) (512 * sectors) h (omega arith)
