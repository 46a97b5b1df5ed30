use Rattle.ncq_core.proofs.VerdictLemmas.{running_table, stopped_table}
use Rattle.ncq_core.proofs.laws.the_disk_takes_commands_by_this_table.Goals as goal

pub returns-clause-stopped : goal.returns-clause-stopped
returns-clause-stopped c = stopped_table

pub returns-clause-running : goal.returns-clause-running
returns-clause-running c = running_table
