use Rattle.hba_command.proofs.TrimLemmas.{none_before}
use Rattle.hba_command.proofs.trim_range.ranges_come_in_order.Goals as goal

pub returns-clause-before : goal.returns-clause-before
returns-clause-before c = none_before c.args.bytes.now
