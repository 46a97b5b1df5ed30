use Rattle.hba_command.proofs.TrimLemmas.{range_on_disk}
use Rattle.hba_command.proofs.trim_range.range_at.Goals as goal

pub returns-clause-on_disk : goal.returns-clause-on_disk
returns-clause-on_disk c = rw (c.range_of.ensures.value, c.entry_at.ensures) (range_on_disk c.args.bytes.now c.args.index c.requires)
