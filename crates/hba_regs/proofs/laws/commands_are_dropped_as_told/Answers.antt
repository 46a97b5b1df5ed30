use Rattle.hba_regs.proofs.LawLemmas.{all_dropped, commands_stay}
use Rattle.hba_regs.proofs.laws.commands_are_dropped_as_told.Goals as goal

pub returns-clause-dropped : goal.returns-clause-dropped
returns-clause-dropped c = all_dropped c.args.regs.now c.args.value c.args.register

pub returns-clause-sact : goal.returns-clause-sact
returns-clause-sact c e i = (commands_stay c.args.regs.now c.args.value c.args.register e i).0

pub returns-clause-ci : goal.returns-clause-ci
returns-clause-ci c e i = (commands_stay c.args.regs.now c.args.value c.args.register e i).1
