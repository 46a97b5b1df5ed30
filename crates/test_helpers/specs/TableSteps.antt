-- A step of the device as a table has it.
use Rattle.std.specs.Prelude.{◌≡◌, take}
use Rattle.ahci_port.specs.declared.step.DeviceStep.{DeviceStep}
use Rattle.ahci_port.specs.declared.step.DeviceStep.TheVariants as step
use Rattle.test_helpers.specs.declared.table_step.TableStep.{TableStep}
use Rattle.test_helpers.specs.declared.table_step.TableStep.TheVariants as table

-- the same step, with the first 32 of its tags
abbrev pub IsAsTabled : TableStep → DeviceStep → Type 0
IsAsTabled (table.Accept tag) made = made ≡ step.Accept tag
IsAsTabled (table.Serve tags) (step.Serve list) = list.items ≡ take 32 tags.now
IsAsTabled (table.Serve tags) made = ⊥
IsAsTabled (table.Fail tag error at) made = made ≡ step.Fail tag error at
