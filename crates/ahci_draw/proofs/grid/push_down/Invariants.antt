-- The first lines are appended.
use Rattle.std.proofs.Common.{◌≡◌, ◌++◌}
use Rattle.std.specs.List.{flat_map, range_with_len}
use Rattle.ahci_draw.specs.Grid.{down}
use Rattle.ahci_draw.proofs.grid.push_down.Given as goal

abbrev pub invariant-loop-ten : goal.invariant-loop-ten
invariant-loop-ten g l = l.text.bytes ≡ l.initial.text.bytes ++ flat_map (down l.lanes) (range_with_len 0 l.ten)
