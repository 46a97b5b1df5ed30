use Rattle.std.proofs.Common.{IfErr, IfOk, map, subst}
use Rattle.ncq_journal.specs.Work.{work_of}
use Rattle.ahci_driver.specs.Received.{received_of}
use Rattle.ahci_driver.specs.Running.{HasRun, IsGivenUp}
use Rattle.ahci_jobs.specs.RunJobs.{blank_port}
use Rattle.ahci_jobs.proofs.run.done.Goals as goal

pub returns-clause-ok : goal.returns-clause-ok
returns-clause-ok g c =
    subst (λ workers. IfOk c.run.result (λ end. HasRun (blank_port c.args.size) end.port (map work_of c.args.jobs.now) (map received_of end.replies.items) workers))
    c.workers.ensures.is
    (subst (λ port. IfOk c.run.result (λ end. HasRun port end.port (map work_of c.args.jobs.now) (map received_of end.replies.items) c.workers.result))
    c.in_ok-port.ensures.port c.run.ensures.ok)

pub returns-clause-fault : goal.returns-clause-fault
returns-clause-fault g c =
    subst (λ port. IfErr c.run.result (IsGivenUp port (map work_of c.args.jobs.now))) c.in_ok-port.ensures.port c.run.ensures.fault
