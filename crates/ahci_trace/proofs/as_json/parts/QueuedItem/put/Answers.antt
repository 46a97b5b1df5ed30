use Rattle.std.proofs.Common.{◌++◌, ◌∙◌, codes, ap}
use Rattle.std.specs.List.{flat_map}
use Rattle.ncq_core.specs.DiskFis.{setup_bytes}
use Rattle.sata_fis.specs.Fields.{QueuedFields}
use Rattle.streams.proofs.FoundLemmas.{on_ok_from}
use Rattle.ahci_trace.specs.Json.{boolean_member, hex_text, list_member, number_member, payload_value, text_member, transfer_object}
use Rattle.ahci_trace.proofs.TextLemmas.{four_parts, part_is}
use Rattle.ahci_trace.proofs.as_json.parts.QueuedItem.put.Goals as goal

pub returns : goal.returns
unfolding transfer_object
returns g c =
    let bytes = setup_bytes c.args.self.now in
    let members =
    part_is _ c.in_ok-put_each.ensures
    (ap (λ t. number_member (codes "tag") c.self.inside.tag ++ (boolean_member (codes "write") c.self.inside.write ++ text_member (codes "dma_setup") (hex_text t)))
    (c.as_slice.ensures.value ∙ c.setup-bytes.ensures)
    ∙ ap (λ (q : QueuedFields). number_member (codes "tag") q.tag ++ (boolean_member (codes "write") q.write ++ text_member (codes "dma_setup") (hex_text bytes))) c.self.view_is) in
    let rest = part_is _ c.in_ok-put_list.ensures (ap (λ ps. list_member (codes "data") (flat_map payload_value ps)) (c.deref.ensures.value ∙ c.in_ok-payloads.ensures)) in
    on_ok_from c.add-2.result _ _ c.add-2.ensures
    (λ last. four_parts c.args.tokens.now _ _ _ _ _ _ _ _ c.in_ok-add.ensures members rest last)
