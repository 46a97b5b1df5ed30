use Rattle.streams.proofs.FoundLemmas.{on_ok_from}
use Rattle.ahci_trace.proofs.TextLemmas.{four_parts}
use Rattle.ahci_trace.proofs.as_json.tokens.Tokens.put_list.Goals as goal

pub returns : goal.returns
returns g c =
    on_ok_from c.add-3.result _ _ c.add-3.ensures
    (λ last. four_parts c.args.self.now _ _ _ _ _ _ _ _ c.in_ok-add.ensures c.in_ok-add-2.ensures c.in_ok-put_each.ensures last)
