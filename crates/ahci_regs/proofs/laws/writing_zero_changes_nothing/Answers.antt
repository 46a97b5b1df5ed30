use Rattle.ahci_regs.proofs.LawLemmas.{zero_to_is, zero_to_sact, zero_to_ci}
use Rattle.ahci_regs.proofs.laws.writing_zero_changes_nothing.Goals as goal

pub returns-clause-is : goal.returns-clause-is
returns-clause-is c = zero_to_is _

pub returns-clause-sact : goal.returns-clause-sact
returns-clause-sact c = zero_to_sact _ c.keeps_its_rules.ensures

pub returns-clause-ci : goal.returns-clause-ci
returns-clause-ci c = zero_to_ci _ c.keeps_its_rules.ensures
