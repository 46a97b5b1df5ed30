-- The numbers of the first rows are appended.
use Rattle.std.proofs.Common.{◌≡◌, ◌++◌}
use Rattle.std.specs.List.{flat_map, range_with_len}
use Rattle.ahci_draw.specs.Overview.{row_name}
use Rattle.ahci_draw.proofs.overview.push_row_names.Given as goal

abbrev pub invariant-loop-row : goal.invariant-loop-row
invariant-loop-row g l = l.text.bytes ≡ l.initial.text.bytes ++ flat_map (row_name l.lanes) (range_with_len 0 l.row)
