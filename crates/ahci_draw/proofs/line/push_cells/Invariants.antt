-- The letters of the first tags are appended.
use Rattle.std.proofs.Common.{◌≡◌, ◌++◌}
use Rattle.std.specs.List.{flat_map, range_with_len}
use Rattle.ahci_draw.specs.Line.{cell_at}
use Rattle.ahci_draw.proofs.line.push_cells.Given as goal

abbrev pub invariant-loop-tag : goal.invariant-loop-tag
invariant-loop-tag g l = l.text.bytes ≡ l.initial.text.bytes ++ flat_map (cell_at l.tags) (range_with_len 0 l.tag)
