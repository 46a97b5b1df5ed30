-- The text so far, and the names that are left, are the whole.
use Rattle.std.proofs.Common.{◌≡◌, ◌++◌, false, drop, map}
use Rattle.word_bits.specs.Places.{bits}
use Rattle.ahci_trace.specs.Names.{named, names_text}
use Rattle.ahci_trace.proofs.names.push_names.Given as goal

abbrev pub invariant-loop-bit : goal.invariant-loop-bit
invariant-loop-bit g l =
    l.text.bytes ++ names_text l.any (bits l.word) (map named (drop l.bit-index l.some)) ≡ l.initial.text.bytes ++ names_text false (bits l.word) (map named l.some)
