-- ST is 0, and no slot has a command.
use Rattle.std.proofs.Common.{refl}
use Rattle.ahci_hba.proofs.laws.no_slot_has_a_step_after_power_on.Goals as goal

pub returns : goal.returns
returns g c = λ slot. refl
