-- the slots so far
use Rattle.std.proofs.Common.{◌≡◌, length}
use Rattle.std.specs.List.{slice_get}
use Rattle.sector_store.specs.Slots.{IsEmpty}
use Rattle.sector_store.proofs.leaf.Leaf.new.Given as goal

abbrev pub invariant-loop : goal.invariant-loop
invariant-loop g l = record {
  count : length l.slots.items ≡ l.counter;
  empty : IsEmpty (slice_get l.slots.items);
}
