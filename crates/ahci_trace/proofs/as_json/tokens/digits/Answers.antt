-- Two digits more.
use Rattle.std.proofs.Common.{[], ◌++◌, ap, ◌∙◌}
use Rattle.streams.specs.Text.{hex_of}
use Rattle.ahci_trace.proofs.TextLemmas.{more_text}
use Rattle.ahci_trace.proofs.as_json.tokens.digits.Goals as goal

pub loop-byte-preserved : goal.loop-byte-preserved
loop-byte-preserved g c =
    more_text (λ byte. hex_of 2 byte) [] _ _ c.args.bytes.now c.loop-byte.byte-index _ c.loop-byte-test.true c.loop-byte.invariant
    (c.in_ok-push.ensures.ok ∙ ap (λ t. c.loop-byte.text.bytes ++ t) c.two_digits.ensures)
