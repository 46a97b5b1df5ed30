-- One more.
use Rattle.std.proofs.Common.{◌++◌, ap, ◌∙◌}
use Rattle.ahci_trace.proofs.TextLemmas.{more_text}
use Rattle.ahci_trace.proofs.as_json.tokens.Tokens.put_each.Goals as goal

pub loop-item-preserved : goal.loop-item-preserved
loop-item-preserved g c =
    more_text g.T.Item.value _ _ _ c.args.items.now c.loop-item.item-index c.item-item.result c.loop-item-test.true c.loop-item.invariant
    (c.in_ok-put.ensures ∙ ap (λ item. c.loop-item.self ++ g.T.Item.value item) c.item-item.is)
