-- One piece more.
use Rattle.ahci_trace.specs.Text.{data_text}
use Rattle.ahci_trace.proofs.TextLemmas.{more_text}
use Rattle.ahci_trace.proofs.transfer.push_each.Goals as goal

pub loop-bytes-preserved : goal.loop-bytes-preserved
loop-bytes-preserved g c =
    more_text (data_text c.args.write) _ _ _ c.args.payloads.now c.loop-bytes.bytes-index _ c.loop-bytes-test.true c.loop-bytes.invariant c.in_ok-push_moved.ensures
