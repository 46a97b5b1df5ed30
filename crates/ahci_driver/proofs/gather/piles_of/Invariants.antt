-- a pile for each end so far
use Rattle.std.proofs.Common.{◌≡◌, map}
use Rattle.ahci_driver.specs.Gathering.{left_in, receipts_in}
use Rattle.ahci_driver.proofs.gather.piles_of.Given as goal

abbrev pub invariant-loop-brought : goal.invariant-loop-brought
invariant-loop-brought g l = map left_in l.piles.items ≡ map receipts_in l.yielded
