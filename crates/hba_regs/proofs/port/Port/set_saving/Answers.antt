-- ALPE and ASP are 0 without CAP.SALP.
use Rattle.std.proofs.Common.{◌≡◌, ◌&&◌, subst, sym}
use Rattle.hba_regs.specs.Fields.{port_of}
use Rattle.hba_regs.proofs.StateLemmas.{lawful_power}
use Rattle.hba_regs.proofs.port.Port.set_saving.Goals as goal

pub invariant_of-self : goal.invariant_of-self
invariant_of-self c =
    let h = c.self.invariant in
    let saves = subst (λ v. (v.capabilities.salp && c.args.alpe) ≡ c.args.alpe) (sym c.self.view_is) c.requires.alpe in
    let slumbers = subst (λ v. (v.capabilities.salp && c.args.asp) ≡ c.args.asp) (sym c.self.view_is) c.requires.asp in
    lawful_power (port_of c.self.inside) _ _ _ (record { spun = h.power.spun; saves = saves; slumbers = slumbers }) h.link h
