use Rattle.std.proofs.Common.{◌≡◌, ◌+◌, ◌*◌, length, ap, ◌∙◌, arith}
use Rattle.sector_store.proofs.ShownLemmas.{read_more}
use Rattle.sector_store.proofs.pages.reserve.read_page.Goals as goal

pub loop-place-preserved : goal.loop-place-preserved
loop-place-preserved g c =
    let f = g.B.Base.sector c.args.base.now in
    let place = c.loop-place.place in
    let number : c.args.number * 8 + place ≡ 8 * c.args.number + place = omega arith in
    let is : c.read.new.out ≡ f (8 * c.args.number + place) = c.read.ensures ∙ ap f number in
    let len : length c.read.new.out ≡ 512 = ap length is ∙ g.met.B.Base.whole c.args.base.now (8 * c.args.number + place) in
    read_more f (8 * c.args.number) place _ c.loop-place.out c.read.new.out (omega arith) len (omega arith) is c.loop-place.invariant
