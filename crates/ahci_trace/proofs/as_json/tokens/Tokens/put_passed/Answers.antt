use Rattle.std.proofs.Common.{codes, ap}
use Rattle.std.specs.List.{flat_map}
use Rattle.streams.proofs.FoundLemmas.{on_ok_from}
use Rattle.ahci_trace.specs.Json.{list_member, passed_members, transfer_object}
use Rattle.ahci_trace.proofs.TextLemmas.{five_in_turn, part_is}
use Rattle.ahci_trace.proofs.as_json.tokens.Tokens.put_passed.Goals as goal

pub returns : goal.returns
unfolding passed_members
returns g c =
    let served = part_is _ c.in_ok-put_list.ensures (ap (λ qs. list_member (codes "transfers") (flat_map transfer_object qs)) c.deref.ensures.value) in
    on_ok_from c.put-2.result _ _ c.put-2.ensures
    (λ last. five_in_turn c.args.self.now _ _ _ _ _ _ _ _ _ _ c.in_ok-add.ensures c.in_ok-put.ensures served c.in_ok-add-2.ensures last)
