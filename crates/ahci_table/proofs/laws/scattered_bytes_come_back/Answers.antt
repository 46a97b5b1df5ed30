use Rattle.ahci_table.proofs.LawLemmas.{gives_back}
use Rattle.ahci_table.proofs.laws.scattered_bytes_come_back.Goals as goal

pub returns : goal.returns
returns c = gives_back
