-- The pieces of the first ones are appended.
use Rattle.std.proofs.Common.{◌≡◌, ◌++◌, ◌∷◌, take}
use Rattle.std.specs.List.{flat_map}
use Rattle.streams.specs.Text.{hex_of}
use Rattle.ahci_trace.proofs.note.push_bytes.Given as goal

abbrev pub invariant-loop-byte : goal.invariant-loop-byte
invariant-loop-byte g l =
    l.text.bytes ≡ l.initial.text.bytes ++ flat_map (λ byte. 32 ∷ hex_of 2 byte) (take l.byte-index l.bytes)
