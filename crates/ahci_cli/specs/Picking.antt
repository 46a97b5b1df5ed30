-- What the device does next, by the chooser that a command line picks.
use Rattle.std.specs.Prelude.{ℕ}
use Rattle.ahci_args.specs.declared.pick.Pick.{Pick}
use Rattle.ahci_args.specs.declared.pick.Pick.TheVariants.{Low, High, All}
use Rattle.ahci_driver.specs.Choosing.{IsStepOfAll, IsHighestStep, IsLowestStep}
use Rattle.ahci_port.specs.declared.step.DeviceStep.{DeviceStep}

abbrev pub IsStepOf : Pick → (issued accepted : ℕ) → DeviceStep → Type 0
IsStepOf Low issued accepted step = IsLowestStep issued accepted step
IsStepOf High issued accepted step = IsHighestStep issued accepted step
IsStepOf All issued accepted step = IsStepOfAll issued accepted step
