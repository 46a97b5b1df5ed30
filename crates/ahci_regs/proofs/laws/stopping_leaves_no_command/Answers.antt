use Rattle.ahci_regs.proofs.LawLemmas.{stopped_by_write}
use Rattle.ahci_regs.proofs.laws.stopping_leaves_no_command.Goals as goal

pub returns : goal.returns
returns c = stopped_by_write _ c.args.value c.keeps_its_rules.ensures c.requires
