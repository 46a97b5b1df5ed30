-- One name more.
use Rattle.word_bits.specs.Places.{bits}
use Rattle.ahci_trace.proofs.NameLemmas.{more_names}
use Rattle.ahci_trace.proofs.names.push_names.Goals as goal

pub loop-bit-preserved : goal.loop-bit-preserved
loop-bit-preserved g c =
    more_names _ _ _ (bits c.args.word) _ _ c.args.some.now c.loop-bit.bit-index _ c.loop-bit-test.true c.loop-bit.invariant c.in_ok-any.ensures.items c.in_ok-any.ensures.more
