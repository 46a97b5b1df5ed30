-- The digits of the first ones are there.
use Rattle.std.proofs.Common.{◌≡◌, take}
use Rattle.ahci_trace.specs.Json.{hex_text}
use Rattle.ahci_trace.proofs.as_json.tokens.digits.Given as goal

abbrev pub invariant-loop-byte : goal.invariant-loop-byte
invariant-loop-byte g l = l.text.bytes ≡ hex_text (take l.byte-index l.bytes)
