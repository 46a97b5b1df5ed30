use Rattle.ahci_script.proofs.ReadBackLemmas.{read_back}
use Rattle.ahci_script.proofs.laws.a_printed_command_is_read_back.Goals as goal

pub returns : goal.returns
returns c = read_back
