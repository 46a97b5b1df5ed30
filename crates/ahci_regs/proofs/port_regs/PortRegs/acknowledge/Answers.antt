-- The interrupts that are left are this model's.
use Rattle.std.proofs.Common.{sym, subst}
use Rattle.ahci_regs.specs.PortState.{IsInterrupts}
use Rattle.word_bits.specs.Places.{bits}
use Rattle.ahci_regs.specs.Fields.{state_of}
use Rattle.ahci_regs.proofs.StateLemmas.{kept_by_interrupts, interrupts-minus}
use Rattle.ahci_regs.proofs.port_regs.PortRegs.acknowledge.Goals as goal

pub invariant_of-self : goal.invariant_of-self
invariant_of-self c =
    let s = state_of c.self.inside in
    let h = c.self.invariant in
    kept_by_interrupts s _ _ h (subst IsInterrupts (sym c.acknowledged-self-inside.ensures) (interrupts-minus s.is (bits c.args.value) h.is)) h.ie
