-- the receipts so far are right
use Rattle.std.proofs.Common.{map}
use Rattle.ncq_journal.specs.Work.{work_of}
use Rattle.ahci_driver.specs.Received.{received_of}
use Rattle.ahci_driver.specs.Settled.{AllRight}
use Rattle.ahci_driver.proofs.settlement.first_wrong.Given as goal

abbrev pub invariant-loop-index : goal.invariant-loop-index
invariant-loop-index g l = AllRight l.port (map work_of l.jobs) (map received_of l.receipts) l.workers l.index
