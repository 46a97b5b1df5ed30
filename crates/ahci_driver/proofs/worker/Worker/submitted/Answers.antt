use Rattle.std.proofs.Common.{◌∙◌, refl, subst, sym}
use Rattle.std.specs.Prelude.{IfSome}
use Rattle.ahci_driver.specs.Finishing.{no_turn}
use Rattle.ahci_driver.proofs.FinishingLemmas.{pump_is_a_turn}
use Rattle.ahci_driver.proofs.StoppingLemmas.{stops_here}
use Rattle.ahci_driver.specs.Stopping.{IsStopAt}
use Rattle.ahci_driver.proofs.worker.Worker.submitted.Goals as goal

pub loop-init : goal.loop-init
loop-init g c = record { waited = no_turn c.args.self.now.chooser; gate = refl }

pub loop-preserved : goal.loop-preserved
loop-preserved g c = record {
  waited = pump_is_a_turn g.C.Chooser.gives c.args.self.now.chooser c.loop.self.chooser c.pump.new.self.chooser c.loop.invariant.waited c.in_ok-pump.ensures.asked;
  gate = c.in_ok-pump.ensures.gate ∙ c.loop.invariant.gate;
}

pub returns-in-Some-stop_at-clause-stop : goal.returns-in-Some-stop_at-clause-stop
returns-in-Some-stop_at-clause-stop g c =
    subst (λ o. IfSome o (IsStopAt c.args.job)) (sym c.stop_at.ensures ∙ c.in-Some-stop_at.is) (stops_here c.in-Err.fault c.args.job)
