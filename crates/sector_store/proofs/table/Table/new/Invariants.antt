-- the places so far
use Rattle.std.proofs.Common.{◌≡◌, ℕ, length, get_or, None}
use Rattle.sector_store.proofs.table.Table.new.Given as goal

abbrev pub invariant-loop : goal.invariant-loop
invariant-loop g l = record {
  count : length l.branches.items ≡ l.counter;
  none : (i : ℕ) → get_or l.branches.items i None ≡ None;
}
