use Rattle.hba_regs.proofs.laws.commands_are_in_slots_of_the_list.Goals as goal

pub returns-clause-sact : goal.returns-clause-sact
returns-clause-sact c = c.keeps_its_rules.ensures.port.sact.none c.args.slot c.requires

pub returns-clause-ci : goal.returns-clause-ci
returns-clause-ci c = c.keeps_its_rules.ensures.port.ci.none c.args.slot c.requires
