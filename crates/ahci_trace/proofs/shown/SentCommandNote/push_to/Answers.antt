use Rattle.std.proofs.Common.{ap}
use Rattle.std.specs.List.{flat_map}
use Rattle.streams.proofs.FoundLemmas.{on_ok_from}
use Rattle.ahci_trace.specs.Text.{prdt_text}
use Rattle.ahci_trace.proofs.TextLemmas.{three_parts}
use Rattle.ahci_trace.proofs.shown.SentCommandNote.push_to.Goals as goal

pub returns : goal.returns
returns g c =
    on_ok_from c.push_notes.result _ _ c.push_notes.ensures
    (λ last. three_parts c.args.text.now.bytes _ _ _ _ _ _ _ c.in_ok-push_named.ensures c.in_ok-push_named-2.ensures last (ap (flat_map prdt_text) c.deref.ensures.value))
