use Rattle.ahci_regs.proofs.LawLemmas.{ended_by_one}
use Rattle.ahci_regs.proofs.laws.one_fis_ends_the_commands_of_two.Goals as goal

pub returns : goal.returns
returns c = ended_by_one
