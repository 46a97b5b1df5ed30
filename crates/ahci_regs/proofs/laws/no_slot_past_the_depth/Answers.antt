use Rattle.ahci_regs.proofs.StateLemmas.{slots_above}
use Rattle.ahci_regs.proofs.laws.no_slot_past_the_depth.Goals as goal

pub returns-clause-sact : goal.returns-clause-sact
returns-clause-sact c = slots_above _ _ c.keeps_its_rules.ensures.sact

pub returns-clause-ci : goal.returns-clause-ci
returns-clause-ci c = slots_above _ _ c.keeps_its_rules.ensures.ci
