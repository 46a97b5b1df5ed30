-- One piece more.
use Rattle.std.proofs.Common.{length, ap, ◌∙◌, refl, arith}
use Rattle.std.proofs.lemmas.List.FromFn.{length-map-range_with_len}
use Rattle.ahci_table.specs.Prdt.{piece_of, entry_of}
use Rattle.ahci_table.specs.Window.{base}
use Rattle.ahci_table.proofs.PrdtLemmas.{listed_more}
use Rattle.ahci_table.proofs.window.Window.pieces.Goals as goal

pub push-requires : goal.push-requires
push-requires g c =
    let w = c.args.self.now in
    let len = ap length c.loop-index.invariant.0 ∙ length-map-range_with_len (λ i. piece_of (base w.tag) (entry_of w i)) 0 c.loop-index.index in
    (omega arith, omega (arith, len))

pub loop-index-preserved : goal.loop-index-preserved
loop-index-preserved g c = listed_more c.args.self.now c.loop-index.index _ _ c.in_ok-piece_at.field-0 c.loop-index.invariant.0
    c.loop-index.invariant.1 c.push.ensures.items c.in_ok-piece_at.ensures.value (c.in_ok-piece_at.ensures.fit.0 refl)
