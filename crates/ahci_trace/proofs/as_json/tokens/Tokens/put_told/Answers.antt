use Rattle.std.proofs.Common.{codes, ap}
use Rattle.std.specs.List.{flat_map}
use Rattle.streams.proofs.FoundLemmas.{on_ok_from}
use Rattle.ahci_trace.specs.Json.{change_object, entry_object, list_member, slot_object, told_members, write_object}
use Rattle.ahci_trace.proofs.TextLemmas.{five_in_turn, part_is}
use Rattle.ahci_trace.proofs.as_json.tokens.Tokens.put_told.Goals as goal

pub returns : goal.returns
unfolding told_members
returns g c =
    let entries = part_is _ c.in_ok-put_list.ensures (ap (λ es. list_member (codes "entries") (flat_map entry_object es)) c.deref.ensures.value) in
    let writes = part_is _ c.in_ok-put_list-2.ensures (ap (λ ws. list_member (codes "writes") (flat_map write_object ws)) c.deref-2.ensures.value) in
    let changes = part_is _ c.in_ok-put_list-3.ensures (ap (λ cs. list_member (codes "registers") (flat_map change_object cs)) c.deref-3.ensures.value) in
    on_ok_from c.put_list-4.result _ _ c.put_list-4.ensures
    (λ last. five_in_turn c.args.self.now _ _ _ _ _ _ _ _ _ _ entries writes c.in_ok-put_passed.ensures changes
    (part_is _ last (ap (λ ss. list_member (codes "slots") (flat_map slot_object ss)) c.deref-4.ensures.value)))
