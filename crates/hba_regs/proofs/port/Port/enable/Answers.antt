-- The bits that PxIE has.
use Rattle.word_bits.specs.Places.{bits}
use Rattle.hba_regs.specs.Fields.{port_of}
use Rattle.hba_regs.proofs.StateLemmas.{enabled_again, lawful_interrupts}
use Rattle.hba_regs.proofs.port.Port.enable.Goals as goal

pub invariant_of-self : goal.invariant_of-self
invariant_of-self c =
    let h = c.self.invariant in
    lawful_interrupts (port_of c.self.inside) _ _ _ h.is (enabled_again (bits c.args.value) _ c.enabled-self-inside.ensures) h
