-- the slots so far are empty
use Rattle.std.proofs.Common.{◌≡◌}
use Rattle.ahci_port.proofs.ResettingLemmas.{cleared_first}
use Rattle.ahci_hba.proofs.hba.write.clear.Given as goal

abbrev pub invariant-loop-slot : goal.invariant-loop-slot
invariant-loop-slot g l = l.slots ≡ cleared_first l.slot l.initial.slots
