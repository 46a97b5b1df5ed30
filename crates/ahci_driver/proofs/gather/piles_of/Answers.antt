use Rattle.std.proofs.Common.{◌∙◌, ◌++◌, [], ◌∷◌, ap, map, sym}
use Rattle.std.proofs.lemmas.Iterator.Adapters.{YieldsList-from_vec}
use Rattle.std.proofs.lemmas.Iterator.Consumers.{YieldsList-end}
use Rattle.std.proofs.lemmas.List.{map-id, map_push}
use Rattle.ahci_driver.specs.Gathering.{left_in, receipts_in}
use Rattle.ahci_driver.proofs.gather.piles_of.Goals as goal

pub loop-brought-preserved : goal.loop-brought-preserved
loop-brought-preserved g c =
    ap (map left_in) c.in_ok-push.ensures.items ∙ map_push left_in c.loop-brought.piles.items c.pile_of.result
    ∙ ap (λ l. l ++ left_in c.pile_of.result ∷ []) c.loop-brought.invariant ∙ ap (λ p. map receipts_in c.loop-brought.yielded ++ p ∷ []) c.pile_of.ensures
    ∙ sym (map_push receipts_in c.loop-brought.yielded c.in-Some.brought)

pub returns : goal.returns
returns g c =
    let t =
    YieldsList-end
    (YieldsList-from_vec {s = c.into_iter-brought-iterator.result} c.args.ends.items c.into_iter-brought-iterator.ensures.into_iter_gives.0
    (c.into_iter-brought-iterator.ensures.into_iter_gives.1 ∙ c.args.ends.ok.0))
    c.loop-brought.yielded c.loop-brought.brought-iterator c.loop-brought.yielded_by c.next.result c.next.new.self c.in-None.is c.next.ensures.steps in
    c.loop-brought.invariant ∙ ap (map receipts_in) (sym (map-id c.loop-brought.yielded) ∙ t.0)
