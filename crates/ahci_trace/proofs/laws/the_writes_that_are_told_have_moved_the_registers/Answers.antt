use Rattle.ahci_trace.proofs.WriteLemmas.{tells_writes}
use Rattle.ahci_trace.proofs.laws.the_writes_that_are_told_have_moved_the_registers.Goals as goal

pub returns : goal.returns
returns c = tells_writes
