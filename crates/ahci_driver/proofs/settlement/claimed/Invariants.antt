-- the receipts so far may be those of their jobs, and what they claim is noted
use Rattle.std.proofs.Common.{map}
use Rattle.ncq_journal.specs.Work.{work_of}
use Rattle.ahci_driver.specs.Received.{received_of}
use Rattle.ahci_driver.specs.Settled.{AreFit}
use Rattle.ahci_driver.proofs.settlement.claimed.Given as goal

abbrev pub invariant-loop-index : goal.invariant-loop-index
invariant-loop-index g l = AreFit l.port (map work_of l.jobs) (map received_of l.receipts) l.workers l.index l.places.items
