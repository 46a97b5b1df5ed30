-- the port got on by pumps that asked the chooser, and the ticket is the one that was handed in
use Rattle.std.proofs.Common.{◌≡◌}
use Rattle.ahci_driver.specs.Finishing.{HasGotOn}
use Rattle.ahci_driver.proofs.finish.finish_locked.Given as goal

abbrev pub invariant-loop : goal.invariant-loop
invariant-loop g l = record {
  got_on : HasGotOn g.C.Chooser.gives l.initial.chooser l.chooser l.initial.port l.port;
  same : l.ticket ≡ l.initial.ticket;
}
