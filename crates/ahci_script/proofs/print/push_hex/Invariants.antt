-- The digits of the first bytes are appended.
use Rattle.std.proofs.Common.{◌≡◌, ◌++◌, take}
use Rattle.ahci_script.specs.Printing.{hex_bytes}
use Rattle.ahci_script.proofs.print.push_hex.Given as goal

abbrev pub invariant-loop-byte : goal.invariant-loop-byte
invariant-loop-byte g l = l.text.bytes ≡ l.initial.text.bytes ++ hex_bytes (take l.byte-index l.bytes)
