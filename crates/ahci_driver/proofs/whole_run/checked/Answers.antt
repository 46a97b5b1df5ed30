use Rattle.std.proofs.Common.{◌≡◌, map, refl, subst}
use Rattle.std.specs.Prelude.{IfErr, OnOk}
use Rattle.ncq_journal.specs.Work.{work_of}
use Rattle.ahci_driver.specs.Received.{received_of}
use Rattle.ahci_driver.specs.Running.{IsReturned}
use Rattle.ahci_driver.specs.Settled.{IsSettled, IsUnsettled}
use Rattle.ahci_driver.proofs.RunningLemmas.{ended_well, ends_with, refused_end}
use Rattle.ahci_driver.proofs.whole_run.checked.Goals as goal

pub returns-clause-still : goal.returns-clause-still
returns-clause-still g c =
    ends_with (λ end. IsReturned end.port c.args.handed.now) c.settle-settled.result c.end_of.result (record { port = c.args.port; replies = c.args.replies })
    c.end_of.ensures.ok c.end_of.ensures.fault (c.is_returned.ensures.0 c.if-not-is_returned.false)

pub returns-clause-replies : goal.returns-clause-replies
returns-clause-replies g c =
    ends_with (λ end. end.replies ≡ c.args.replies) c.settle-settled.result c.end_of.result (record { port = c.args.port; replies = c.args.replies })
    c.end_of.ensures.ok c.end_of.ensures.fault refl

pub returns-clause-settled : goal.returns-clause-settled
returns-clause-settled g c =
    ended_well (λ end. IsSettled end.port (map work_of c.args.jobs.now) (map received_of end.replies.items) c.args.workers) c.settle-settled.result c.end_of.result
    (record { port = c.args.port; replies = c.args.replies }) c.end_of.ensures.ok c.end_of.ensures.fault
    (subst (λ r. OnOk c.settle-settled.result (IsSettled c.args.port (map work_of c.args.jobs.now) (map received_of r) c.args.workers)) c.deref.ensures.value c.settle-settled.ensures.ok)

pub returns-clause-foreign : goal.returns-clause-foreign
returns-clause-foreign g c = λ other. absurd (other (c.is_returned.ensures.0 c.if-not-is_returned.false))

pub returns-clause-why : goal.returns-clause-why
returns-clause-why g c =
    refused_end c.args.port c.args.handed.now (map work_of c.args.jobs.now) (map received_of c.args.replies.items) c.args.workers c.settle-settled.result c.end_of.result
    (record { port = c.args.port; replies = c.args.replies }) c.end_of.ensures.ok c.end_of.ensures.fault (c.is_returned.ensures.0 c.if-not-is_returned.false)
    (subst (λ r. IfErr c.settle-settled.result (IsUnsettled c.args.port (map work_of c.args.jobs.now) (map received_of r) c.args.workers)) c.deref.ensures.value c.settle-settled.ensures.fault)
