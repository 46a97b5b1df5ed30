-- The rules that a window breaks, as reasons that every crate names alike.
use Rattle.ahci_table.specs.declared.fault.TableFault.{TableFault}
use Rattle.ahci_table.specs.declared.fault.TableFault.TheVariants as table
use Rattle.port_refusal.specs.declared.refusal.Refusal.{Refusal}
use Rattle.port_refusal.specs.declared.refusal.Refusal.TheVariants as refusal

-- a port would not take a window
abbrev pub of_table : TableFault → Refusal
of_table table.BadHeader = refusal.BadHeader
of_table table.BadCommand = refusal.BadCommand
of_table table.WrongTag = refusal.WrongTag
of_table table.BadList = refusal.BadList
