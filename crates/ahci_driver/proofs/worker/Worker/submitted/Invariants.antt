-- the worker's chooser was asked in some turns, and its gate is the same
use Rattle.std.proofs.Common.{◌≡◌}
use Rattle.ahci_driver.specs.Finishing.{HasWaited}
use Rattle.ahci_driver.proofs.worker.Worker.submitted.Given as goal

abbrev pub invariant-loop : goal.invariant-loop
invariant-loop g l = record {
  waited : HasWaited g.C.Chooser.gives l.initial.self.chooser l.self.chooser;
  gate : l.self.gate.now ≡ l.initial.self.gate.now;
}
