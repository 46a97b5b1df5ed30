use Rattle.hba_regs.proofs.laws.bases_are_in_reach.Goals as goal

pub returns-clause-clb : goal.returns-clause-clb
returns-clause-clb c = (c.keeps_its_rules.ensures.port.reach c.requires).0

pub returns-clause-fb : goal.returns-clause-fb
returns-clause-fb c = (c.keeps_its_rules.ensures.port.reach c.requires).1
