use Rattle.hba_regs.proofs.LawLemmas.{reset_by_hr}
use Rattle.hba_regs.proofs.laws.a_reset_leaves_the_bases.Goals as goal

pub returns : goal.returns
returns c = reset_by_hr c.args.regs.now c.args.value c.requires
