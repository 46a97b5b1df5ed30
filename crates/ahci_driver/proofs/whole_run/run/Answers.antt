use Rattle.std.proofs.Common.{length, map, subst}
use Rattle.ncq_journal.specs.Work.{work_of}
use Rattle.ahci_driver.specs.Gathering.{HaveEnded, OfAllDone}
use Rattle.ahci_driver.proofs.RunningLemmas.{has_run, late_too, passed_all}
use Rattle.ahci_driver.proofs.whole_run.run.Goals as goal

pub returns-clause-ok : goal.returns-clause-ok
returns-clause-ok g c =
    has_run c.args.port c.in_ok-handed.handed (map work_of c.args.jobs.now) c.args.workers c.ended.result c.in_default.ensures c.in_ok-handed.ensures c.ended.ensures.still c.ended.ensures.settled

pub returns-clause-fault : goal.returns-clause-fault
returns-clause-fault g c = late_too c.args.port (map work_of c.args.jobs.now) c.ended.result c.in_default.ensures c.ended.ensures.late c.ended.ensures.names

pub ended-requires-clause-each : goal.ended-requires-clause-each
ended-requires-clause-each g c = subst (λ workers. HaveEnded (length c.args.jobs.now) workers c.in_ok-port.ends.items) c.requires.choosers c.in_ok-port.ensures.each

pub returns-clause-passed : goal.returns-clause-passed
returns-clause-passed g c =
    passed_all (λ job. g.G.Gate.began c.args.gate.now job × g.G.Gate.ended c.args.gate.now job) c.in_ok-port.ends.items c.args.workers (length c.args.jobs.now)
    c.ended.result c.requires.some
    (subst (λ workers. OfAllDone (length c.args.jobs.now) workers (λ job. g.G.Gate.began c.args.gate.now job × g.G.Gate.ended c.args.gate.now job) c.in_ok-port.ends.items)
    c.requires.choosers c.in_ok-port.ensures.passed)
    c.ended.ensures.whole
