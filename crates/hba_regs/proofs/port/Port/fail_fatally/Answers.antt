-- A fatal error's bit is neither PCS nor PRCS.
use Rattle.std.proofs.Common.{sym, subst}
use Rattle.hba_regs.specs.Fields.{port_of}
use Rattle.hba_regs.specs.HbaState.{IsKept}
use Rattle.hba_regs.proofs.StateLemmas.{kept-fatal, lawful_interrupts}
use Rattle.hba_regs.proofs.port.Port.fail_fatally.Goals as goal

pub invariant_of-self : goal.invariant_of-self
invariant_of-self c =
    let h = c.self.invariant in
    lawful_interrupts (port_of c.self.inside) _ _ _ (subst IsKept (sym c.failed-self-inside.ensures) (kept-fatal _ c.args.fatal h.is)) h.ie h
