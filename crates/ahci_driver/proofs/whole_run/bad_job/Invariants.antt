-- the commands so far can be issued
use Rattle.std.proofs.Common.{map}
use Rattle.ncq_journal.specs.Work.{work_of}
use Rattle.ahci_driver.specs.Running.{ProperBelow}
use Rattle.ahci_driver.proofs.whole_run.bad_job.Given as goal

abbrev pub invariant-loop-index : goal.invariant-loop-index
invariant-loop-index g l = ProperBelow (map work_of l.jobs) l.index
