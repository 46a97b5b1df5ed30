-- the LBAs so far
use Rattle.std.proofs.Common.{◌≡◌, ◌+◌, ◌++◌, length}
use Rattle.std.specs.List.{range_with_len}
use Rattle.hba_command.proofs.uncorrectable.append.Given as goal

abbrev pub invariant-loop-index : goal.invariant-loop-index
invariant-loop-index l = record {
  items : l.marks.items ≡ l.initial.marks.items ++ range_with_len l.first l.index;
  room : length l.marks.items ≡ length l.initial.marks.items + l.index;
}
