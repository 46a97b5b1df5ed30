-- The marks of the first places are appended.
use Rattle.std.proofs.Common.{◌≡◌, ◌++◌}
use Rattle.std.specs.List.{flat_map, range_with_len}
use Rattle.ahci_draw.specs.Lines.{texts}
use Rattle.ahci_draw.specs.Overview.{mark_at}
use Rattle.ahci_draw.proofs.marks.push_marks.Given as goal

abbrev pub invariant-loop-place : goal.invariant-loop-place
invariant-loop-place g l = l.text.bytes ≡ l.initial.text.bytes ++ flat_map (mark_at l.sign l.signs (texts l.lines)) (range_with_len 0 l.place)
