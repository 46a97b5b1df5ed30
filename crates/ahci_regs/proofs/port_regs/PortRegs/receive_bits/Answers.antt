-- The interrupts stay among this model's, and the slots below the depth.
use Rattle.std.proofs.Common.{sym, ◌∙◌, subst, arith}
use Rattle.ahci_regs.specs.PortState.{IsSlots}
use Rattle.word_bits.specs.Places.{bits}
use Rattle.ahci_regs.specs.Fields.{state_of}
use Rattle.ahci_regs.proofs.StateLemmas.{kept_by_fis, interrupts_after_fis, interrupts-sdbs, slots-minus, minus_of_none, status_after_bits-lt}
use Rattle.ahci_regs.proofs.port_regs.PortRegs.receive_bits.Goals as goal

pub invariant_of-self : goal.invariant_of-self
invariant_of-self c =
    let s = state_of c.self.inside in
    let h = c.self.invariant in
    let lost = bits c.args.sactive in
    let below = status_after_bits-lt s.sts c.args.status h.sts (omega arith) in
    kept_by_fis s _ c.args.error _ _ _ h (omega (arith, below, c.after_bits-self-inside.ensures)) (omega arith)
    (interrupts_after_fis _ _ _ _ _ c.after_fis-self-inside.ensures interrupts-sdbs h.is)
    (subst (IsSlots s.depth) (sym c.lost-self-inside.ensures) (slots-minus s.depth s.sact lost h.sact)) h.ci (λ e. c.lost-self-inside.ensures ∙ minus_of_none s.sact lost e) (λ e. e)
