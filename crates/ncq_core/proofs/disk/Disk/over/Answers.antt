use Rattle.std.proofs.Common.{rules}
use Rattle.ncq_core.proofs.DiskLemmas.{is_disk_new}
use Rattle.ncq_core.proofs.disk.Disk.over.Goals as goal

pub invariant_of-result : goal.invariant_of-result
invariant_of-result g c = (is_disk_new _ _ _ _ _ _ c.no_commands.ensures (search rules) (search rules) (search rules) (search rules) (search rules), search rules)
