-- One more.
use Rattle.word_bits.specs.Places.{bits}
use Rattle.ahci_trace.specs.Json.{bit_value}
use Rattle.ahci_trace.specs.Names.{named}
use Rattle.ahci_trace.proofs.TextLemmas.{more_text}
use Rattle.ahci_trace.proofs.as_json.tokens.Tokens.put_each_bit.Goals as goal

pub loop-bit-preserved : goal.loop-bit-preserved
loop-bit-preserved g c =
    more_text (λ b. bit_value (bits c.args.word) (named b)) _ _ _ c.args.some.now c.loop-bit.bit-index _ c.loop-bit-test.true c.loop-bit.invariant c.in_ok-put_bit.ensures
