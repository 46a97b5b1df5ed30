-- The interrupts stay among this model's.
use Rattle.std.proofs.Common.{arith}
use Rattle.ahci_regs.specs.Fields.{state_of}
use Rattle.ahci_regs.proofs.StateLemmas.{kept_by_fis, interrupts_after, interrupts-tfes}
use Rattle.ahci_regs.proofs.port_regs.PortRegs.receive_pio.Goals as goal

pub invariant_of-self : goal.invariant_of-self
invariant_of-self c =
    let s = state_of c.self.inside in
    let h = c.self.invariant in
    kept_by_fis s c.args.status c.args.error _ _ _ h (omega arith) (omega arith) (interrupts_after _ _ _ _ c.with-self-inside.ensures interrupts-tfes h.is) h.sact h.ci (λ e. e) (λ e. e)
