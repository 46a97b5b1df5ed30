-- The faults of a register access, as reasons that every crate names alike.
use Rattle.ahci_regs.specs.declared.fault.RegFault.{RegFault}
use Rattle.ahci_regs.specs.declared.fault.RegFault.TheVariants as reg
use Rattle.port_refusal.specs.declared.refusal.Refusal.{Refusal}
use Rattle.port_refusal.specs.declared.refusal.Refusal.TheVariants as refusal

-- a register is not read or written
abbrev pub of_register : RegFault → Refusal
of_register reg.Unaligned = refusal.Unaligned
of_register reg.NoSuchRegister = refusal.NoSuchRegister
of_register reg.NotStarted = refusal.NotStarted
of_register reg.NotReceiving = refusal.NotReceiving
of_register reg.Running = refusal.Running
