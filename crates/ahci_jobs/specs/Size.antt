-- How large a run is.
use Rattle.std.specs.Prelude.{ℕ, ◌≤◌}

pub record Size : Type 0 where
  pub workers : ℕ
  pub depth : ℕ
  pub sectors : ℕ

-- so many workers, slots and sectors
abbrev pub size_of : ℕ → ℕ → ℕ → Size
size_of workers depth sectors = record { workers = workers; depth = depth; sectors = sectors }

-- each within what a driver, a port and a disk may have
pub record IsSize (size : Size) : Type 0 where
  pub some : 1 ≤ size.workers
  pub most : size.workers ≤ 32
  pub slots : 1 ≤ size.depth
  pub deep : size.depth ≤ 32
  pub room : 1 ≤ size.sectors
  pub limit : size.sectors ≤ 131072
