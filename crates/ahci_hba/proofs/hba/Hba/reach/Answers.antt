use Rattle.std.proofs.Common.{ap, sym, ◌∙◌}
use Rattle.hba_regs.specs.PortStates.{p_idle_selects}
use Rattle.ahci_hba.proofs.OutlookLemmas.{is_busy, nearest_is_read, no_bit_waits, none_waits}
use Rattle.ahci_hba.proofs.hba.Hba.reach.Goals as goal

pub returns-then-ci-eq0 : goal.returns-then-ci-eq0
returns-then-ci-eq0 g c = no_bit_waits c.args.self.now c.ci.result (c.ci.ensures ∙ ap (λ h. h.registers.port.ci) c.self.view_is) c.if-ci-eq0.true

pub returns-in_default : goal.returns-in_default
returns-in_default g c = none_waits c.args.self.now c.nearest_waiting.result c.nearest_waiting.ensures c.in_default.is

pub returns-then-is_busy_alone : goal.returns-then-is_busy_alone
returns-then-is_busy_alone g c = is_busy c.args.self.now (sym c.if-is_busy_alone.ensures)

pub returns : goal.returns
returns g c =
    nearest_is_read c.args.self.now c.nearest_waiting.result c.in-Some.nearest c.requires.listening
    (sym (c.if-not-is_free.ensures ∙ ap (λ h. p_idle_selects h.registers.port) c.self.view_is)) (sym c.if-is_busy_alone.ensures) c.nearest_waiting.ensures c.in-Some.is
