-- The heads of the first columns are appended.
use Rattle.std.proofs.Common.{◌≡◌, ◌++◌}
use Rattle.std.specs.List.{flat_map, range_with_len}
use Rattle.ahci_draw.specs.Lines.{texts}
use Rattle.ahci_draw.specs.Signs.{column_head}
use Rattle.ahci_draw.proofs.signs.push_heads.Given as goal

abbrev pub invariant-loop-column : goal.invariant-loop-column
invariant-loop-column g l = l.text.bytes ≡ l.initial.text.bytes ++ flat_map (column_head l.lanes (texts l.lines)) (range_with_len 0 l.column)
