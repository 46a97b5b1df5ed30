-- One piece more.
use Rattle.std.proofs.Common.{◌∷◌}
use Rattle.streams.specs.Text.{hex_of}
use Rattle.ahci_trace.proofs.TextLemmas.{more_text}
use Rattle.ahci_trace.proofs.note.push_bytes.Goals as goal

pub loop-byte-preserved : goal.loop-byte-preserved
loop-byte-preserved g c =
    more_text (λ byte. 32 ∷ hex_of 2 byte) _ _ _ c.args.bytes.now c.loop-byte.byte-index _ c.loop-byte-test.true c.loop-byte.invariant c.in_ok-push_byte.ensures
