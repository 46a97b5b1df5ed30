-- The first lanes are appended.
use Rattle.std.proofs.Common.{◌≡◌, ◌++◌}
use Rattle.std.specs.List.{flat_map, range_with_len}
use Rattle.ahci_draw.specs.Lanes.{lane_at}
use Rattle.ahci_draw.specs.Lines.{texts}
use Rattle.ahci_draw.proofs.lanes.push_lanes.Given as goal

abbrev pub invariant-loop-lane : goal.invariant-loop-lane
invariant-loop-lane g l = l.text.bytes ≡ l.initial.text.bytes ++ flat_map (lane_at l.tags (texts l.lines)) (range_with_len 0 l.lane)
