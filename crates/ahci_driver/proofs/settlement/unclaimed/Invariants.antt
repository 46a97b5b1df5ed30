-- each command so far has a receipt
use Rattle.std.proofs.Common.{map}
use Rattle.ahci_driver.specs.Received.{received_of}
use Rattle.ahci_driver.specs.Settled.{AllNamed}
use Rattle.ahci_driver.proofs.settlement.unclaimed.Given as goal

abbrev pub invariant-loop-number : goal.invariant-loop-number
invariant-loop-number g l = AllNamed l.port (map received_of l.receipts) l.number
