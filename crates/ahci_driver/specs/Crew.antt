-- The workers of a run, before any of them begins.
use Rattle.std.specs.Prelude.{◌≡◌, ℕ, ◌<◌, List, length, Some, IsSomeAnd, slice_get}
use Rattle.ncq_journal.specs.declared.op.Op.{Op}
use Rattle.tag_board.specs.Board.{Board, newcomer}
use Rattle.ahci_driver.specs.declared.worker.Worker.{Worker}

-- worker i has a seat of its own on the driver's board and the i-th chooser, begins with job i, and goes on in steps of as many as
-- there are workers
pub record IsWorker {A C G : Type 0} (board : Board) (jobs : List (Op A)) (gate : G) (choosers : List C) (i : ℕ) (worker : Worker A C G) : Type 0 where
  pub driver_is : worker.driver.now ≡ board
  pub seat_is : worker.seat ≡ newcomer board
  pub jobs_same : worker.jobs.now ≡ jobs
  pub gate_same : worker.gate.now ≡ gate
  pub chooser_is : slice_get choosers i ≡ Some worker.chooser
  pub first_is : worker.first ≡ i
  pub workers_is : worker.workers ≡ length choosers

-- there is one for each chooser, in their order
pub record AreCrew {A C G : Type 0} (board : Board) (jobs : List (Op A)) (gate : G) (choosers : List C) (crew : List (Worker A C G)) : Type 0 where
  pub count : length crew ≡ length choosers
  pub each : (i : ℕ) → i < length crew → IsSomeAnd (slice_get crew i) (IsWorker board jobs gate choosers i)
