-- The bit is neither PCS nor PRCS.
use Rattle.std.proofs.Common.{sym, subst}
use Rattle.hba_regs.specs.Fields.{port_of}
use Rattle.hba_regs.specs.HbaState.{IsKept}
use Rattle.hba_regs.proofs.StateLemmas.{kept-raised, lawful_interrupts}
use Rattle.hba_regs.proofs.port.Port.raise.Goals as goal

pub invariant_of-self : goal.invariant_of-self
invariant_of-self c =
    let h = c.self.invariant in
    let kept = kept-raised c.args.is_raised _ c.args.place (λ e. c.requires.ufs (sym e)) (λ e. c.requires.pcs (sym e)) (λ e. c.requires.prcs (sym e)) h.is in
    lawful_interrupts (port_of c.self.inside) _ _ _ (subst IsKept (sym c.raised-self-inside.ensures) kept) h.ie h
