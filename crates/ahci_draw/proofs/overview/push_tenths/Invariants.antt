-- The numbers of the first tenths are appended.
use Rattle.std.proofs.Common.{◌≡◌, ◌++◌}
use Rattle.std.specs.List.{flat_map, range_with_len}
use Rattle.ahci_draw.specs.Lines.{texts}
use Rattle.ahci_draw.specs.Overview.{tenth_at}
use Rattle.ahci_draw.proofs.overview.push_tenths.Given as goal

abbrev pub invariant-loop-ten : goal.invariant-loop-ten
invariant-loop-ten g l = l.text.bytes ≡ l.initial.text.bytes ++ flat_map (tenth_at (texts l.lines)) (range_with_len 0 l.ten)
