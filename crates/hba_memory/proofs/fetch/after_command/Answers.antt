use Rattle.std.proofs.Common.{sym}
use Rattle.hba_memory.proofs.FetchLemmas.{lacks_for_data}
use Rattle.hba_memory.proofs.fetch.after_command.Goals as goal

pub returns-in-Some-clause-lacking : goal.returns-in-Some-clause-lacking
returns-in-Some-clause-lacking g c = lacks_for_data c.after_task.result _ c.in-Some.h2d c.task_of.result (sym c.in-Some.ensures) c.task_of.ensures c.after_task.ensures.lacking
