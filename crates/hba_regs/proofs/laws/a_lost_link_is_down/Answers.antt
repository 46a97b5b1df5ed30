use Rattle.std.proofs.Common.{refl}
use Rattle.hba_regs.proofs.EventLemmas.{lost_is_down}
use Rattle.hba_regs.proofs.laws.a_lost_link_is_down.Goals as goal

pub returns-clause-lost : goal.returns-clause-lost
returns-clause-lost c = lost_is_down c.args.regs.now.port c.args.regs.now.port.link refl

pub returns-clause-unplugged : goal.returns-clause-unplugged
returns-clause-unplugged c = lost_is_down c.args.regs.now.port c.args.regs.now.port.link refl
