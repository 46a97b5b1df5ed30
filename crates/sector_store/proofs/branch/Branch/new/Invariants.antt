-- the places so far
use Rattle.std.proofs.Common.{◌≡◌, ℕ, length, get_or, None}
use Rattle.sector_store.proofs.branch.Branch.new.Given as goal

abbrev pub invariant-loop : goal.invariant-loop
invariant-loop g l = record {
  count : length l.leaves.items ≡ l.counter;
  none : (i : ℕ) → get_or l.leaves.items i None ≡ None;
}
