-- how far the worker is: the receipts so far and the jobs that are left are all its turns, and each job so far has passed the gate
use Rattle.std.proofs.Common.{◌≡◌, ℕ, ◌+◌, ◌-◌, ◌*◌, ◌^◌, ◌<◌, length, min}
use Rattle.ahci_driver.specs.Sharing.{turns}
use Rattle.ahci_driver.proofs.worker.Worker.all.Given as goal

abbrev pub invariant-loop-op : goal.invariant-loop-op
invariant-loop-op g l = record {
  turns : length l.receipts.items + turns (length l.jobs) l.workers l.job ≡ turns (length l.fn.self.jobs.now) l.fn.self.workers l.fn.self.first;
  job : l.job ≡ min (l.fn.self.first + length l.receipts.items * l.workers) (2 ^ 64 - 1);
  gate : l.self.gate.now ≡ l.fn.self.gate.now;
  passed : (k : ℕ) → k < length l.receipts.items → l.fn.self.first + k * l.workers < length l.jobs
      → g.G.Gate.began l.fn.self.gate.now (l.fn.self.first + k * l.workers) × g.G.Gate.ended l.fn.self.gate.now (l.fn.self.first + k * l.workers);
}

abbrev pub decreases-loop-op : goal.decreases-loop-op
decreases-loop-op g l = length l.jobs - l.job
