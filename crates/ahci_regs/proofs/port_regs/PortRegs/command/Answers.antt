-- A started port receives, and a stopped one has no slot.
use Rattle.std.proofs.Common.{sym, ◌∙◌, subst, arith}
use Rattle.ahci_regs.specs.PortState.{IsSlots}
use Rattle.ahci_regs.specs.Fields.{state_of}
use Rattle.ahci_regs.proofs.StateLemmas.{kept_by_command, slots-remaining, remaining_of_stopped}
use Rattle.ahci_regs.proofs.port_regs.PortRegs.command.Goals as goal

pub invariant_of-self : goal.invariant_of-self
invariant_of-self c =
    let s = state_of c.self.inside in
    let h = c.self.invariant in
    let st = c.starts-starts.result in
    kept_by_command s st c.receives-receives.result _ _ h (subst (IsSlots s.depth) (sym c.remaining-self-inside.ensures) (slots-remaining s.depth _ s.sact h.sact))
    (subst (IsSlots s.depth) (sym c.remaining-self-inside-2.ensures) (slots-remaining s.depth _ s.ci h.ci))
    (λ e. grind arith)
    (λ e. (
      c.remaining-self-inside.ensures ∙ remaining_of_stopped s.st st s.sact (λ k. (h.stopped k).0) e,
      c.remaining-self-inside-2.ensures ∙ remaining_of_stopped s.st st s.ci (λ k. (h.stopped k).1) e,
    ))
