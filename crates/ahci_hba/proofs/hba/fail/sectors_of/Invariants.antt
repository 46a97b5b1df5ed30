-- the sectors so far
use Rattle.std.proofs.Common.{◌≡◌}
use Rattle.ahci_hba.specs.Failing.{sectors_of}
use Rattle.ahci_hba.proofs.hba.fail.sectors_of.Given as goal

abbrev pub invariant-loop-index : goal.invariant-loop-index
invariant-loop-index g l = l.bytes.items ≡ sectors_of l.port l.first l.index
