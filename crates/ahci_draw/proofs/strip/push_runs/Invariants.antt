-- The runs of the first places are appended.
use Rattle.std.proofs.Common.{◌≡◌, ◌++◌}
use Rattle.std.specs.List.{flat_map, range_with_len}
use Rattle.ahci_draw.specs.Strip.{run_at}
use Rattle.ahci_draw.proofs.strip.push_runs.Given as goal

abbrev pub invariant-loop-place : goal.invariant-loop-place
invariant-loop-place g l = l.text.bytes ≡ l.initial.text.bytes ++ flat_map (run_at l.strip l.cells) (range_with_len 0 l.place)
