-- the receipts of the jobs so far, and what is left of each worker's
use Rattle.std.proofs.Common.{◌≡◌, map}
use Rattle.ahci_driver.specs.Gathering.{left_in, receipts_in}
use Rattle.ahci_driver.specs.Sharing.{in_turn}
use Rattle.ahci_driver.proofs.SharingLemmas.{AreLeft}
use Rattle.ahci_driver.proofs.gather.in_order.Given as goal

abbrev pub invariant-loop-job : goal.invariant-loop-job
invariant-loop-job g l = record {
  replies : l.replies.items ≡ in_turn (map receipts_in l.fn.ends.items) l.workers l.job;
  left : AreLeft (map receipts_in l.fn.ends.items) (map left_in l.piles.items) l.workers l.job;
}
