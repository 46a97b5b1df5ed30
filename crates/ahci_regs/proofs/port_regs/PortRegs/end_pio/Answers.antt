-- The interrupts stay among this model's, and the slots below the depth.
use Rattle.std.proofs.Common.{sym, ◌∙◌, subst, arith}
use Rattle.ahci_regs.specs.PortState.{IsSlots}
use Rattle.ahci_regs.specs.Fields.{state_of}
use Rattle.ahci_regs.proofs.StateLemmas.{kept_by_fis, interrupts_after_fis, interrupts-pss, slots-ended, ended_of_none}
use Rattle.ahci_regs.proofs.port_regs.PortRegs.end_pio.Goals as goal

pub invariant_of-self : goal.invariant_of-self
invariant_of-self c =
    let s = state_of c.self.inside in
    let h = c.self.invariant in
    kept_by_fis s c.args.e_status s.err _ _ _ h (omega arith) h.err
    (interrupts_after_fis _ _ _ _ _ c.after_fis-self-inside.ensures interrupts-pss h.is) h.sact
    (subst (IsSlots s.depth) (sym c.ended-self-inside.ensures) (slots-ended s.depth c.args.e_status c.args.tag s.ci h.ci))
    (λ e. e) (λ e. c.ended-self-inside.ensures ∙ ended_of_none c.args.e_status c.args.tag s.ci e)
