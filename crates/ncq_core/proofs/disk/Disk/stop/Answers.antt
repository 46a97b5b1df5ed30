use Rattle.ncq_core.proofs.DiskLemmas.{is_disk_stopped}
use Rattle.ncq_core.proofs.disk.Disk.stop.Goals as goal

pub invariant_of-self-2 : goal.invariant_of-self-2
invariant_of-self-2 g c =
    (is_disk_stopped _ _ _ _ _ _ _ _ c.args.tag c.args.error c.args.lba c.self.invariant.0 c.no_commands-self-inside.ensures c.requires.tag c.ranges.error.fits c.requires.lba, c.self.invariant.1)
