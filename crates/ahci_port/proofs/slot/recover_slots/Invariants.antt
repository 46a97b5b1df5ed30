-- the slots so far have recovered
use Rattle.std.proofs.Common.{◌≡◌}
use Rattle.ahci_port.proofs.MappedLemmas.{recovered_first}
use Rattle.ahci_port.proofs.slot.recover_slots.Given as goal

abbrev pub invariant-loop-index : goal.invariant-loop-index
invariant-loop-index g l = l.slots ≡ recovered_first l.index l.initial.slots
