use Rattle.hba_regs.specs.Interrupts.{is_pending}
use Rattle.hba_regs.proofs.InterruptLemmas.{ips_cleared}
use Rattle.hba_regs.proofs.laws.ips_stays_until_it_is_cleared.Goals as goal

pub returns-clause-cleared : goal.returns-clause-cleared
returns-clause-cleared c = ips_cleared c.args.regs.now.ips (is_pending c.args.regs.now.port)
