use Rattle.ncq_core.proofs.DiskLemmas.{is_disk_reset}
use Rattle.ncq_core.proofs.disk.Disk.reset.Goals as goal

pub invariant_of-self : goal.invariant_of-self
invariant_of-self g c =
    (is_disk_reset _ _ _ _ _ _ _ _ c.self.invariant.0 c.no_commands-self-inside.ensures, c.self.invariant.1)
