-- The first rows are appended.
use Rattle.std.proofs.Common.{◌≡◌, ◌++◌}
use Rattle.std.specs.List.{flat_map, range_with_len}
use Rattle.ahci_draw.specs.Row.{row_at}
use Rattle.ahci_draw.specs.Lines.{texts}
use Rattle.ahci_draw.proofs.row.push_rows.Given as goal

abbrev pub invariant-loop-row : goal.invariant-loop-row
invariant-loop-row g l = l.text.bytes ≡ l.initial.text.bytes ++ flat_map (row_at l.tags (texts l.lines)) (range_with_len 0 l.row)
