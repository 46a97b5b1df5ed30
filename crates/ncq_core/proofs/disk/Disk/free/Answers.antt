use Rattle.ncq_core.proofs.DiskLemmas.{is_disk_freed}
use Rattle.ncq_core.proofs.disk.Disk.free.Goals as goal

pub invariant_of-self : goal.invariant_of-self
invariant_of-self g c = (is_disk_freed _ _ _ _ _ _ _ _ c.self.invariant.0, c.self.invariant.1)
