-- the slots so far are free
use Rattle.std.proofs.Common.{◌≡◌, replicate, None}
use Rattle.ahci_hba.proofs.hba.empty_slots.Given as goal

abbrev pub invariant-loop-slot : goal.invariant-loop-slot
invariant-loop-slot g l = l.slots.items ≡ replicate l.slot None
