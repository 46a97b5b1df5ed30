-- The faults of a new disk, as reasons that every crate names alike.
use Rattle.ncq_core.specs.declared.disk_fault.DiskFault.{DiskFault}
use Rattle.ncq_core.specs.declared.disk_fault.DiskFault.TheVariants as disk
use Rattle.port_refusal.specs.declared.refusal.Refusal.{Refusal}
use Rattle.port_refusal.specs.declared.refusal.Refusal.TheVariants as refusal

-- a disk is not made
abbrev pub of_disk : DiskFault → Refusal
of_disk disk.BadSize = refusal.BadSize
of_disk disk.BadDepth = refusal.BadDepth
of_disk disk.OutOfMemory = refusal.OutOfMemory
