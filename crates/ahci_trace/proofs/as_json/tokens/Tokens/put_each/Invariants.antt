-- The tokens of the first ones are added.
use Rattle.std.proofs.Common.{◌≡◌, ◌++◌, take}
use Rattle.std.specs.List.{flat_map}
use Rattle.ahci_trace.proofs.as_json.tokens.Tokens.put_each.Given as goal

abbrev pub invariant-loop-item : goal.invariant-loop-item
invariant-loop-item g l =
    l.self ≡ l.initial.self ++ flat_map g.T.Item.value (take l.item-index l.items)
