-- the slots so far are free
use Rattle.std.proofs.Common.{◌≡◌, replicate, None}
use Rattle.ahci_port.proofs.port.free_slots.Given as goal

abbrev pub invariant-loop-tag : goal.invariant-loop-tag
invariant-loop-tag g l = l.slots.items ≡ replicate l.tag None
