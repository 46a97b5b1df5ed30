-- The entries so far are in the list.
use Rattle.std.proofs.Common.{◌≡◌, ◌+◌, ◌++◌, vec_len, vec_capacity}
use Rattle.hba_memory.specs.Table.{entries_in}
use Rattle.hba_memory.proofs.table.push_entries.Given as goal

abbrev pub invariant-loop-index : goal.invariant-loop-index
invariant-loop-index g l = record {
  items : l.list.items ≡ l.initial.list.items ++ entries_in l.index l.bytes;
  len : vec_len l.list ≡ vec_len l.initial.list + l.index;
  capacity : vec_capacity l.list ≡ vec_capacity l.initial.list;
}
