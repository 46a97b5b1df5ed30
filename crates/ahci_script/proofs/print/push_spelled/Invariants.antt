-- The digits of the first bytes are appended.
use Rattle.std.proofs.Common.{◌≡◌, ◌++◌, take}
use Rattle.ahci_script.specs.Printing.{hex_bytes}
use Rattle.ahci_script.proofs.print.push_spelled.Given as goal

abbrev pub invariant-loop-index : goal.invariant-loop-index
invariant-loop-index g l = l.text.bytes ≡ l.initial.text.bytes ++ hex_bytes (take l.index l.bytes)
