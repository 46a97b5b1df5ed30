-- One piece more, and no more than 32.
use Rattle.std.proofs.Common.{◌∷◌, [], ◌++◌, map, length, ap, ◌∙◌, sym, arith}
use Rattle.std.specs.List.{range_with_len}
use Rattle.std.proofs.lemmas.List.FromFn.{length-map-range_with_len, map-range_with_len_more}
use Rattle.ahci_table.specs.Defaults.{piece_from}
use Rattle.ahci_table.proofs.defaults.pieces_from.Goals as goal

pub push-requires : goal.push-requires
push-requires c =
    let piece = piece_from c.args.first c.args.sectors c.args.apiece in
    let len = ap length c.loop-index.invariant ∙ length-map-range_with_len piece 0 c.loop-index.index in
    let few = c.requires.few in
    omega (arith, len, few)

pub loop-index-preserved : goal.loop-index-preserved
loop-index-preserved c =
    let piece = piece_from c.args.first c.args.sectors c.args.apiece in
    let i = c.loop-index.index in
    let so_far = map piece (range_with_len 0 i) in
    c.push.ensures.items
    ∙ ap (λ z. z ++ c.piece_from.result ∷ []) c.loop-index.invariant
    ∙ ap (λ p. so_far ++ p ∷ []) c.piece_from.ensures
    ∙ sym (map-range_with_len_more piece 0 i i (omega arith))
