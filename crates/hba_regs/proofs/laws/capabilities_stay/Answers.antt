use Rattle.hba_regs.proofs.LawLemmas.{can_stays}
use Rattle.hba_regs.proofs.laws.capabilities_stay.Goals as goal

pub returns : goal.returns
returns c = can_stays c.args.regs.now c.args.value c.args.register
