-- the jobs so far
use Rattle.std.proofs.Common.{◌≡◌, ◌++◌, map, take}
use Rattle.ahci_driver.specs.Received.{received_of}
use Rattle.ahci_jobs.specs.Forms.{jobs_in}
use Rattle.ahci_jobs.proofs.text.push_jobs.Given as goal

abbrev pub invariant-loop-job : goal.invariant-loop-job
invariant-loop-job g l = l.text.bytes ≡ l.initial.text.bytes ++ jobs_in l.form l.workers 0 (map received_of (take l.job l.replies))
