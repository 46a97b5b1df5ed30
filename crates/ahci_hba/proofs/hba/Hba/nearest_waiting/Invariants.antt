-- the nearest of the slots so far that wait
use Rattle.ahci_hba.specs.Outlook.{IsNearest}
use Rattle.ahci_hba.proofs.hba.Hba.nearest_waiting.Given as goal

abbrev pub invariant-loop-slot : goal.invariant-loop-slot
invariant-loop-slot g l = IsNearest l.self l.slot l.nearest
