-- No bit of PxIS is set.
use Rattle.std.proofs.Common.{sym, subst}
use Rattle.hba_regs.specs.Fields.{port_of}
use Rattle.hba_regs.specs.HbaState.{IsKept}
use Rattle.hba_regs.proofs.StateLemmas.{kept-minus, lawful_interrupts}
use Rattle.hba_regs.proofs.port.Port.acknowledge.Goals as goal

pub invariant_of-self : goal.invariant_of-self
invariant_of-self c =
    let h = c.self.invariant in
    lawful_interrupts (port_of c.self.inside) _ _ _ (subst IsKept (sym c.without-self-inside.ensures) (kept-minus _ _ h.is)) h.ie h
