-- The link that DET asks for is the same with this SUD.
use Rattle.std.proofs.Common.{◌≡◌, ◌%◌, ◌^◌, not, ◌||◌, subst, sym}
use Rattle.hba_regs.specs.Fields.{port_of}
use Rattle.hba_regs.proofs.StateLemmas.{lawful_power, stays_asked}
use Rattle.hba_regs.proofs.port.Port.keep_link.Goals as goal

pub invariant_of-self : goal.invariant_of-self
invariant_of-self c =
    let a = c.self.inside in
    let h = c.self.invariant in
    let spun = subst (λ v. (not v.capabilities.sss || c.args.spun_up) ≡ c.args.spun_up) (sym c.self.view_is) c.requires.power in
    lawful_power (port_of a) _ _ _ (record { spun = spun; saves = h.power.saves; slumbers = h.power.slumbers })
    (stays_asked (a.control % 2 ^ 4) a.present a.present a.spun_up c.args.spun_up a.link h.link) h
