-- How the jobs of a run are shared: job i is that of worker i mod `workers`, and each worker does its jobs in rising order.
use Rattle.std.specs.Prelude.{ℕ, ◌+◌, ◌-◌, ◌*◌, ◌/◌, ◌%◌, ◌<◌, List, Option, slice_get}
use Rattle.std.specs.Int.{div_ceil}
use Rattle.std.specs.List.{filter_map, range_with_len}
use Rattle.std.specs.Option.{option_and_then}

-- how many of so many jobs are left to a worker whose next one is this
abbrev pub turns : (jobs workers next : ℕ) → ℕ
turns jobs workers next = div_ceil (jobs - next) workers

-- this holds of each job of a worker whose first one is given
abbrev pub OfEach : (jobs workers first : ℕ) → (ℕ → Type 0) → Type 0
OfEach jobs workers first P = (k : ℕ) → first + k * workers < jobs → P (first + k * workers)

-- what the workers have for job i: as many turns of theirs were before it as `workers` goes into i
abbrev pub of_job : {T : Type 0} → List (List T) → (workers i : ℕ) → Option T
of_job piles workers i = option_and_then (λ pile. slice_get pile (i / workers)) (slice_get piles (i % workers))

-- the same of all jobs, in their order
abbrev pub in_turn : {T : Type 0} → List (List T) → (workers jobs : ℕ) → List T
in_turn piles workers jobs = filter_map (of_job piles workers) (range_with_len 0 jobs)
