-- the first seat is still a newcomer's on the driver's board, and there is a worker for each chooser so far
use Rattle.std.proofs.Common.{◌≡◌, ℕ, ◌<◌, length}
use Rattle.std.specs.Prelude.{IsSomeAnd, slice_get, vec_len}
use Rattle.ahci_driver.specs.Crew.{IsWorker}
use Rattle.ahci_driver.proofs.whole_run.crew.Given as goal

abbrev pub invariant-loop-first : goal.invariant-loop-first
invariant-loop-first g l = record {
  seat : l.seat.board ≡ l.driver;
  workers : l.workers ≡ vec_len l.fn.choosers;
  count : length l.crew.items ≡ length l.yielded;
  each : (i : ℕ) → i < length l.crew.items → IsSomeAnd (slice_get l.crew.items i) (IsWorker l.driver l.jobs l.gate l.fn.choosers.items i);
}
