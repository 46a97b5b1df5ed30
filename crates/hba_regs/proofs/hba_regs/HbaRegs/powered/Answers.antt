-- No interrupt is enabled.
use Rattle.std.proofs.Common.{◌∙◌, sym, ap}
use Rattle.hba_regs.specs.Interrupts.{is_pending}
use Rattle.hba_regs.proofs.InterruptLemmas.{pending-reset}
use Rattle.hba_regs.proofs.hba_regs.HbaRegs.powered.Goals as goal

pub invariant_of-result : goal.invariant_of-result
invariant_of-result c = λ e. sym (pending-reset c.args.present c.args.capabilities 0 0) ∙ sym (ap is_pending c.new.ensures) ∙ e
