use Rattle.ahci_regs.proofs.LawLemmas.{read_of_command, command_written_back}
use Rattle.ahci_regs.proofs.laws.command_can_be_written_back.Goals as goal

pub returns-clause-read : goal.returns-clause-read
returns-clause-read c = read_of_command _

pub returns-clause-write : goal.returns-clause-write
returns-clause-write c = command_written_back _ c.keeps_its_rules.ensures
