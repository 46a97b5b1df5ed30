use Rattle.std.proofs.Common.{◌++◌, ◌∙◌, ap, sym}
use Rattle.streams.proofs.FoundLemmas.{on_ok_from}
use Rattle.ahci_trace.specs.Json.{what_members}
use Rattle.ahci_trace.proofs.as_json.parts.EventKindItem.put.Goals as goal

pub returns-in-Issue : goal.returns-in-Issue
unfolding what_members
returns-in-Issue g c =
    on_ok_from c.put_each.result _ _ c.put_each.ensures (λ last. last ∙ ap (λ what. c.args.tokens.now ++ what_members what) (sym c.in-Issue.is))
