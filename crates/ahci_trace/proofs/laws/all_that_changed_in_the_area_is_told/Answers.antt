use Rattle.ahci_trace.proofs.AreaLemmas.{tells_received}
use Rattle.ahci_trace.proofs.laws.all_that_changed_in_the_area_is_told.Goals as goal

pub returns : goal.returns
returns c = tells_received
