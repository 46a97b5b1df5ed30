use Rattle.hba_regs.proofs.LawLemmas.{all_stopped}
use Rattle.hba_regs.proofs.laws.stopping_leaves_no_command.Goals as goal

pub returns-clause-sact : goal.returns-clause-sact
returns-clause-sact c = (all_stopped c.args.regs.now c.args.value c.keeps_its_rules.ensures.port c.requires).0

pub returns-clause-ci : goal.returns-clause-ci
returns-clause-ci c = (all_stopped c.args.regs.now c.args.value c.keeps_its_rules.ensures.port c.requires).1.0

pub returns-clause-halted : goal.returns-clause-halted
returns-clause-halted c = (all_stopped c.args.regs.now c.args.value c.keeps_its_rules.ensures.port c.requires).1.1
