use Rattle.std.proofs.lemmas.Bool.{both_ways}
use Rattle.ahci_driver.proofs.RunningLemmas.{proper_more, bad_here}
use Rattle.ahci_driver.proofs.whole_run.bad_job.Goals as goal

pub returns-then-not-is_proper : goal.returns-then-not-is_proper
returns-then-not-is_proper g c = (
  c.loop-index.invariant,
  bad_here c.args.jobs.now c.loop-index.index c.index-jobs-index.result c.loop-index-test.true c.index-jobs-index.is
      (λ p. both_ways c.is_proper.result c.if-not-is_proper.true (c.is_proper.ensures.1 p)),
)

pub loop-index-preserved : goal.loop-index-preserved
loop-index-preserved g c =
    proper_more c.args.jobs.now c.loop-index.index c.index-jobs-index.result c.loop-index-test.true c.index-jobs-index.is (c.is_proper.ensures.0 c.if-not-is_proper.false) c.loop-index.invariant
