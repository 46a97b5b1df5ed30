use Rattle.ahci_table.proofs.LawLemmas.{commutes}
use Rattle.ahci_table.proofs.laws.scatters_beside_each_other_commute.Goals as goal

pub returns : goal.returns
returns c = commutes
