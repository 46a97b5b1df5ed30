-- No command comes.
use Rattle.hba_regs.specs.Fields.{port_of}
use Rattle.hba_regs.proofs.StateLemmas.{lawful_commands, without_of_none, without_below}
use Rattle.hba_regs.proofs.port.Port.clear_issued.Goals as goal

pub invariant_of-self : goal.invariant_of-self
invariant_of-self c =
    let h = c.self.invariant in
    let without = c.without_bit-self-inside.ensures in
    lawful_commands (port_of c.self.inside) _ _ _ _ _ _ _ (λ e. e) (without_of_none _ _ _ without) h.sact (without_below _ _ _ _ without h.ci) h
