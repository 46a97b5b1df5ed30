-- No command comes.
use Rattle.hba_regs.specs.Fields.{port_of}
use Rattle.hba_regs.proofs.StateLemmas.{lawful_commands, minus_of_none, minus_below}
use Rattle.hba_regs.proofs.port.Port.complete.Goals as goal

pub invariant_of-self : goal.invariant_of-self
invariant_of-self c =
    let h = c.self.invariant in
    let lost = c.lost-self-inside.ensures in
    lawful_commands (port_of c.self.inside) _ _ _ _ _ _ _ (minus_of_none _ _ _ lost) (λ e. e) (minus_below _ _ _ _ lost h.sact) h.ci h
