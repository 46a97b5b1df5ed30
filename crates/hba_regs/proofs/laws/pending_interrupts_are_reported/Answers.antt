use Rattle.hba_regs.specs.Interrupts.{interrupts}
use Rattle.hba_regs.proofs.InterruptLemmas.{pending_of_none, pending_of_some}
use Rattle.hba_regs.proofs.laws.pending_interrupts_are_reported.Goals as goal

pub returns-clause-found : goal.returns-clause-found
returns-clause-found c = pending_of_some (interrupts c.args.regs.now.port) c.args.regs.now.port.ie

pub returns-clause-none : goal.returns-clause-none
returns-clause-none c = pending_of_none (interrupts c.args.regs.now.port) c.args.regs.now.port.ie
