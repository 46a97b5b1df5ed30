use Rattle.std.proofs.Common.{◌≡◌, ◌∙◌, ◌+◌, ◌^◌, ◌<◌, ◌≤◌, ap, length, refl, subst, zero-add, arith}
use Rattle.std.proofs.lemmas.Grind.{common_steps}
use Rattle.std.proofs.lemmas.List.{length_push}
use Rattle.ahci_driver.specs.Sharing.{turns}
use Rattle.ahci_driver.proofs.SharingLemmas.{job_first, job_next, of_each_all, of_each_more, turns_more, turns_step}
use Rattle.ahci_driver.proofs.worker.Worker.all.Goals as goal

pub loop-op-init : goal.loop-op-init
loop-op-init g c =
    let s = c.args.self.now in
    let none : length c.in_ok-receipts.receipts.items ≡ 0 = ap length c.in_ok-receipts.ensures.items in
    record {
      turns = ap (λ n. n + turns (length s.jobs.now) s.workers s.first) none ∙ zero-add (turns (length s.jobs.now) s.workers s.first);
      job = job_first s.first s.workers (length c.in_ok-receipts.receipts.items) none (omega arith);
      gate = refl;
      passed = λ k low within. absurd (omega arith);
    }

pub loop-op-preserved : goal.loop-op-preserved
loop-op-preserved g c =
    let s = c.args.self.now in
    let more : length c.push.new.self.items ≡ length c.loop-op.receipts.items + 1 = ap length c.in_default-push.ensures.items ∙ length_push c.loop-op.receipts.items _ in
    let low : c.loop-op.job < length s.jobs.now = grind (arith, common_steps) in
    let few : length s.jobs.now < 2 ^ 64 = omega arith in
    let some : 1 ≤ s.workers = omega arith in
    record {
      turns = turns_step (length c.loop-op.receipts.items) (turns (length s.jobs.now) s.workers c.loop-op.job)
          (turns (length s.jobs.now) s.workers c.saturating_add-job.result) (turns (length s.jobs.now) s.workers s.first) (length c.push.new.self.items) more
          (turns_more (length s.jobs.now) s.workers c.loop-op.job c.saturating_add-job.result some low few c.saturating_add-job.ensures) c.loop-op.invariant.turns;
      job = job_next s.first s.workers (length c.loop-op.receipts.items) (length c.push.new.self.items) c.loop-op.job c.saturating_add-job.result more
          c.loop-op.invariant.job c.saturating_add-job.ensures;
      gate = c.in_ok-receipt.ensures.gate ∙ c.loop-op.invariant.gate;
      passed = of_each_more (λ job. g.G.Gate.began s.gate.now job × g.G.Gate.ended s.gate.now job) s.first s.workers (length c.loop-op.receipts.items)
          (length c.push.new.self.items) c.loop-op.job (length s.jobs.now) more c.loop-op.invariant.job low few c.loop-op.invariant.passed
          (subst (λ gate. g.G.Gate.began gate c.loop-op.job × g.G.Gate.ended gate c.loop-op.job) c.loop-op.invariant.gate c.in_ok-receipt.ensures.passed);
    }

pub returns-clause-passed : goal.returns-clause-passed
returns-clause-passed g c =
    let s = c.args.self.now in
    let past : length s.jobs.now ≤ c.loop-op.job = grind (arith, common_steps) in
    of_each_all (λ job. g.G.Gate.began s.gate.now job × g.G.Gate.ended s.gate.now job) s.first s.workers (length c.loop-op.receipts.items) c.loop-op.job
    (length s.jobs.now) c.loop-op.invariant.job past c.loop-op.invariant.passed
