-- No command comes.
use Rattle.hba_regs.specs.Fields.{port_of}
use Rattle.hba_regs.proofs.StateLemmas.{lawful_commands, signed_of_none, signed_below}
use Rattle.hba_regs.proofs.port.Port.become_ready.Goals as goal

pub invariant_of-self : goal.invariant_of-self
invariant_of-self c =
    let h = c.self.invariant in
    let ends = c.ended_by_signature-self-inside.ensures in
    lawful_commands (port_of c.self.inside) _ _ _ _ _ _ _ (λ e. e) (signed_of_none _ _ _ ends) h.sact (signed_below _ _ _ _ ends h.ci) h
