use Rattle.std.proofs.Common.{◌∙◌, refl, rules, subst, sym}
use Rattle.std.specs.Prelude.{IfSome}
use Rattle.ahci_driver.specs.Finishing.{no_turn}
use Rattle.ahci_driver.proofs.FinishingLemmas.{waited_on}
use Rattle.ahci_driver.proofs.StoppingLemmas.{stops_waiting}
use Rattle.ahci_driver.specs.Stopping.{IsStopAt}
use Rattle.ahci_driver.proofs.worker.Worker.answered.Goals as goal

pub loop-init : goal.loop-init
loop-init g c = record { held = c.requires; same = refl; gate = refl; waited = no_turn c.args.self.now.chooser }

pub loop-preserved : goal.loop-preserved
loop-preserved g c = record {
  held = search rules;
  same = search rules;
  gate = search rules;
  waited = waited_on g.C.Chooser.gives c.args.self.now.chooser c.loop.self.chooser c.finish.new.chooser c.loop.invariant.waited c.in-Err.ensures.waited;
}

pub returns-in-Some-stop_waiting-clause-stop : goal.returns-in-Some-stop_waiting-clause-stop
returns-in-Some-stop_waiting-clause-stop g c =
    subst (λ o. IfSome o (IsStopAt c.args.job)) (sym c.stop_waiting.ensures ∙ c.in-Some-stop_waiting.is) (stops_waiting c.in-Err.unfinished c.args.job)
