-- The link that DET asks for is the same with SUD 1.
use Rattle.std.proofs.Common.{◌%◌, ◌^◌, true}
use Rattle.hba_regs.specs.Fields.{port_of}
use Rattle.hba_regs.proofs.StateLemmas.{lawful_power, or_true, stays_asked}
use Rattle.hba_regs.proofs.port.Port.only_spin.Goals as goal

pub invariant_of-self : goal.invariant_of-self
invariant_of-self c =
    let a = c.self.inside in
    let h = c.self.invariant in
    lawful_power (port_of a) _ _ _ (record { spun = or_true _; saves = h.power.saves; slumbers = h.power.slumbers })
    (stays_asked (a.control % 2 ^ 4) a.present a.present a.spun_up true a.link h.link) h
