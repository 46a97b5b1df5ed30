-- The first lines are appended.
use Rattle.std.proofs.Common.{◌≡◌, ◌++◌}
use Rattle.std.specs.List.{flat_map, range_with_len}
use Rattle.ahci_draw.specs.Grid.{across}
use Rattle.ahci_draw.proofs.grid.push_across.Given as goal

abbrev pub invariant-loop-lane : goal.invariant-loop-lane
invariant-loop-lane g l = l.text.bytes ≡ l.initial.text.bytes ++ flat_map (across l.columns) (range_with_len 0 l.lane)
