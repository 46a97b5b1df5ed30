-- The interrupts that are enabled are this model's.
use Rattle.std.proofs.Common.{sym, subst}
use Rattle.ahci_regs.specs.PortState.{IsInterrupts}
use Rattle.word_bits.specs.Places.{bits}
use Rattle.word_bits.proofs.BitsLemmas.{length-bits}
use Rattle.ahci_regs.specs.Fields.{state_of}
use Rattle.ahci_regs.proofs.StateLemmas.{kept_by_interrupts, interrupts-named}
use Rattle.ahci_regs.proofs.port_regs.PortRegs.enable.Goals as goal

pub invariant_of-self : goal.invariant_of-self
invariant_of-self c =
    let s = state_of c.self.inside in
    let h = c.self.invariant in
    kept_by_interrupts s _ _ h h.is (subst IsInterrupts (sym c.named-self-inside.ensures) (interrupts-named (bits c.args.value) (length-bits c.args.value)))
