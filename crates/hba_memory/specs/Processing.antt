-- Which entries of a PRDT a transfer has done with (AHCI 1.3.1, sections 3.3.5, DPS, 4.2.3.3, I, and 5.4.2): one whose bytes have all moved. The
-- entry in which the data end doesn't count, unless they end with its last byte.
use Rattle.std.specs.Prelude.{◌≡◌, ◌≤◌, ℕ, ◌+◌, ◌-◌, Bool, true, false, ◌&&◌, ◌||◌, nat_le, List, [], ◌∷◌, ◌++◌}
use Rattle.hba_command.specs.declared.entry.PrdEntry.{PrdEntry}
use Rattle.hba_memory.specs.Runs.{total}

-- some entry with I has all of its bytes among the first so many of the data
abbrev pub has_processed : List PrdEntry → (moved : ℕ) → Bool
has_processed [] n = false
has_processed (e ∷ rest) n = nat_le e.length n && (e.interrupt || has_processed rest (n - e.length))

-- the same of an entry that is named: so many bytes have moved as there are up to its last one
pub record Processes (list : List PrdEntry) (moved : ℕ) : Type 0 where
  pub before : List PrdEntry
  pub entry : PrdEntry
  pub after : List PrdEntry
  pub place : list ≡ before ++ entry ∷ after
  pub interrupt : entry.interrupt ≡ true
  pub whole : total before + entry.length ≤ moved
