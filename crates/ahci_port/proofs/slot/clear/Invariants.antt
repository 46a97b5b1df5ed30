-- the slots so far are free
use Rattle.std.proofs.Common.{◌≡◌}
use Rattle.ahci_port.proofs.ResettingLemmas.{cleared_first}
use Rattle.ahci_port.proofs.slot.clear.Given as goal

abbrev pub invariant-loop-tag : goal.invariant-loop-tag
invariant-loop-tag g l = l.slots ≡ cleared_first l.tag l.initial.slots
