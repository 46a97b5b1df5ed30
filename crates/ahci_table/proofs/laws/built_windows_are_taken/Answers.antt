use Rattle.ahci_table.proofs.LawLemmas.{taken_again}
use Rattle.ahci_table.proofs.laws.built_windows_are_taken.Goals as goal

pub returns : goal.returns
returns c = taken_again
