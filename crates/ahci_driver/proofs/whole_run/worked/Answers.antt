use Rattle.std.proofs.Common.{rules, ◌≡◌, ℕ, ◌<◌, ◌∙◌, ap, length, subst, sym, arith}
use Rattle.std.specs.Prelude.{Err, IfErr, IfOk, OnOk, slice_index_or}
use Rattle.std.proofs.lemmas.List.{length-map}
use Rattle.ncq_journal.specs.Work.{work_of}
use Rattle.ahci_driver.specs.Gathering.{HasDoneAll, HaveEnded, OfAllDone}
use Rattle.ahci_driver.specs.Sharing.{OfEach, turns}
use Rattle.ahci_driver.specs.Stopping.{IsStopAmong}
use Rattle.ahci_driver.specs.declared.worker.Stop.TheVariants.{OutOfMemory}
use Rattle.ahci_driver.proofs.RunningLemmas.{done_all, each_of, passed_at, worker_at}
use Rattle.ahci_driver.proofs.whole_run.worked.Goals as goal

pub map_vec-requires-after_bounds : goal.map_vec-requires-after_bounds
map_vec-requires-after_bounds g c κs within = λ i x low e. (search rules, search rules, search rules, search rules, search rules, search rules)

pub returns-clause-among : goal.returns-clause-among
returns-clause-among g c = λ k d low.
    let inside : k < length c.in_ok-crew.crew.items = let n = c.in_ok-ends.ensures.len in omega arith in
    let at = (c.in_ok-ends.ensures.each k d inside).1 in
    let is = worker_at c.in_ok-crew.ensures k at.job inside (at.job_is at.job) in
    let said = at.call.met.said-raw.1.1 in
    subst (λ n. IfErr (slice_index_or c.in_ok-ends.ends.items k d) (IsStopAmong n)) (ap length is.jobs_same ∙ sym (length-map c.args.jobs.now work_of))
    (subst (λ end. IfErr end (IsStopAmong (length at.job.jobs.now))) (sym said.1.0) said.0.ensures.1.1)

pub returns-clause-each : goal.returns-clause-each
returns-clause-each g c =
    subst (λ workers. HaveEnded (length c.args.jobs.now) workers c.in_ok-ends.ends.items) (sym c.args.choosers.ok.0) (
      let n = c.in_ok-ends.ensures.len in let m = c.in_ok-crew.ensures.count in omega arith,
      λ i low.
          let inside : i < length c.in_ok-crew.crew.items = let m = c.in_ok-crew.ensures.count in omega arith in
          let within : i < length c.in_ok-ends.ends.items = let n = c.in_ok-ends.ensures.len in omega arith in
          let at = (c.in_ok-ends.ensures.each i (Err OutOfMemory) inside).1 in
          let is = worker_at c.in_ok-crew.ensures i at.job inside (at.job_is at.job) in
          let said = at.call.met.said-raw.1.1 in
          each_of (HasDoneAll (length c.args.jobs.now) (length c.args.choosers.items) i) c.in_ok-ends.ends.items i (Err OutOfMemory) within
          (done_all is (slice_index_or c.in_ok-ends.ends.items i (Err OutOfMemory))
          (subst (λ end. IfOk end (λ receipts. length receipts.items ≡ turns (length at.job.jobs.now) at.job.workers at.job.first)) (sym said.1.0) said.0.ensures.0)),
    )

pub returns-clause-passed : goal.returns-clause-passed
returns-clause-passed g c =
    let Passed = λ (gate : g.row.G.Denot) (job : ℕ). g.G.Gate.began gate job × g.G.Gate.ended gate job in
    subst (λ workers. OfAllDone (length c.args.jobs.now) workers (Passed c.args.gate.now) c.in_ok-ends.ends.items) (sym c.args.choosers.ok.0)
    (λ i low.
    let inside : i < length c.in_ok-crew.crew.items = let m = c.in_ok-crew.ensures.count in omega arith in
    let within : i < length c.in_ok-ends.ends.items = let n = c.in_ok-ends.ensures.len in omega arith in
    let at = (c.in_ok-ends.ensures.each i (Err OutOfMemory) inside).1 in
    let is = worker_at c.in_ok-crew.ensures i at.job inside (at.job_is at.job) in
    let said = at.call.met.said-raw.1.1 in
    each_of (λ end. OnOk end (OfEach (length c.args.jobs.now) (length c.args.choosers.items) i (Passed c.args.gate.now))) c.in_ok-ends.ends.items i (Err OutOfMemory) within
    (passed_at is Passed (slice_index_or c.in_ok-ends.ends.items i (Err OutOfMemory))
    (subst (λ end. OnOk end (OfEach (length at.job.jobs.now) at.job.workers at.job.first (Passed at.job.gate.now))) (sym said.1.0) said.0.ensures.1.0)))
