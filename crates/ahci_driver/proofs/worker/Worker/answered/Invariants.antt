-- the ticket is the one that was handed in, the seat still holds its tag, and the worker's chooser was asked in some turns
use Rattle.std.proofs.Common.{◌≡◌, true}
use Rattle.word_bits.specs.Places.{has_place}
use Rattle.ahci_driver.specs.Finishing.{HasWaited}
use Rattle.ahci_driver.proofs.worker.Worker.answered.Given as goal

abbrev pub invariant-loop : goal.invariant-loop
invariant-loop g l = record {
  held : has_place l.self.seat.tags l.ticket.tag ≡ true;
  same : l.ticket ≡ l.initial.ticket;
  gate : l.self.gate.now ≡ l.initial.self.gate.now;
  waited : HasWaited g.C.Chooser.gives l.initial.self.chooser l.self.chooser;
}
