-- The signs of the first columns are appended.
use Rattle.std.proofs.Common.{◌≡◌, ◌++◌}
use Rattle.std.specs.List.{flat_map, range_with_len}
use Rattle.ahci_draw.specs.Lines.{texts}
use Rattle.ahci_draw.specs.Signs.{column_sign}
use Rattle.ahci_draw.proofs.signs.push_signs.Given as goal

abbrev pub invariant-loop-column : goal.invariant-loop-column
invariant-loop-column g l = l.text.bytes ≡ l.initial.text.bytes ++ flat_map (column_sign l.lane l.foot (texts l.lines)) (range_with_len 0 l.column)
