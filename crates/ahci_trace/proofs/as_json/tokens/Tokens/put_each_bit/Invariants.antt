-- The names of the first ones are added.
use Rattle.std.proofs.Common.{◌≡◌, ◌++◌, take}
use Rattle.std.specs.List.{flat_map}
use Rattle.word_bits.specs.Places.{bits}
use Rattle.ahci_trace.specs.Json.{bit_value}
use Rattle.ahci_trace.specs.Names.{named}
use Rattle.ahci_trace.proofs.as_json.tokens.Tokens.put_each_bit.Given as goal

abbrev pub invariant-loop-bit : goal.invariant-loop-bit
invariant-loop-bit g l =
    l.self ≡ l.initial.self ++ flat_map (λ b. bit_value (bits l.word) (named b)) (take l.bit-index l.some)
