use Rattle.std.proofs.Common.{codes, ap}
use Rattle.std.specs.List.{flat_map}
use Rattle.streams.proofs.FoundLemmas.{on_ok_from}
use Rattle.ahci_trace.specs.Json.{list_member, prdt_value, sent_object}
use Rattle.ahci_trace.proofs.TextLemmas.{four_parts, part_is}
use Rattle.ahci_trace.proofs.as_json.parts.SentCommandItem.put.Goals as goal

pub returns : goal.returns
unfolding sent_object
returns g c =
    let entries = part_is _ c.in_ok-put_list.ensures (ap (λ es. list_member (codes "prdt") (flat_map prdt_value es)) c.deref.ensures.value) in
    on_ok_from c.add-2.result _ _ c.add-2.ensures
    (λ last. four_parts c.args.tokens.now _ _ _ _ _ _ _ _ c.in_ok-add.ensures c.in_ok-put_each.ensures entries last)
