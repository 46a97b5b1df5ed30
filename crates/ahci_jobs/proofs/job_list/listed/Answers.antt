use Rattle.std.proofs.Common.{ap, map, subst, sym}
use Rattle.streams.proofs.FoundLemmas.{if_err_from}
use Rattle.ncq_journal.specs.Work.{work_of}
use Rattle.ahci_jobs.specs.Faults.{RunReads}
use Rattle.ahci_jobs.specs.JobList.{IsListFault}
use Rattle.ahci_jobs.specs.declared.jobs_fault.JobsFault.TheVariants.{OutOfMemory}
use Rattle.ahci_jobs.proofs.ListLemmas.{list_fault, list_reads, listed_all, nothing_listed}
use Rattle.ahci_jobs.proofs.job_list.listed.Goals as goal

pub returns-in_err-list-clause-err : goal.returns-in_err-list-clause-err
returns-in_err-list-clause-err g c = if_err_from _ OutOfMemory (IsListFault _ _) c.from_residual-in_err-list.ensures.1 (nothing_listed _)

pub returns-in-Err-clause-err : goal.returns-in-Err-clause-err
returns-in-Err-clause-err g c =
    subst (IsListFault _ _) (sym c.fault_or.ensures)
    (list_fault (λ x. map work_of x.0.jobs.items) c.in-Err.stopped _ _ (c.in_ok-list.list, tt) (c.take_lines.new.taker, c.take_lines.new.output)
    (ap (map work_of) c.in_ok-list.ensures) c.in-Err.ensures.err)

pub returns-in-Ok-clause-ok : goal.returns-in-Ok-clause-ok
returns-in-Ok-clause-ok g c =
    listed_all (λ x. map work_of x.0.jobs.items) _ _ (c.in_ok-list.list, tt) (c.take_lines.new.taker, c.take_lines.new.output) (ap (map work_of) c.in_ok-list.ensures) c.in-Ok.ensures.ok

pub returns-in_err-clone-clause-err : goal.returns-in_err-clone-clause-err
returns-in_err-clone-clause-err g c = if_err_from _ OutOfMemory (IsListFault _ _) c.from_residual.ensures.1 (nothing_listed _)

pub returns-in-Err-clause-reads : goal.returns-in-Err-clause-reads
returns-in-Err-clause-reads g c =
    subst (RunReads c.args.reads.now c.take_lines.new.reads) (sym c.fault_or.ensures)
    (list_reads (λ x. map work_of x.0.jobs.items) c.in-Err.stopped (g.R.Read.remaining c.args.reader.now) (g.R.Read.remaining c.take_lines.new.reader)
    (c.in_ok-list.list, tt) (c.take_lines.new.taker, c.take_lines.new.output) c.args.reads.now c.take_lines.new.reads c.in-Err.ensures.err c.in-Err.ensures.why)
