-- The mark of one place more.
use Rattle.std.proofs.Common.{◌≡◌, arith}
use Rattle.ahci_draw.specs.Lines.{texts}
use Rattle.ahci_draw.specs.Overview.{mark_at, marks_text}
use Rattle.ahci_draw.proofs.PieceLemmas.{all_range, more_range}
use Rattle.ahci_draw.proofs.marks.push_marks.Goals as goal

pub loop-place-preserved : goal.loop-place-preserved
loop-place-preserved g c =
    more_range (mark_at c.args.sign c.args.signs.now (texts c.args.lines.now)) _ _ _ c.loop-place.place c.loop-place.invariant c.in_ok-push_mark_at.ensures

pub returns : goal.returns
unfolding marks_text
returns g c =
    let high = c.loop-place-test.false in
    let low = c.loop-place.auto.place-end in
    let same : c.loop-place.place ≡ 1200 = omega (arith, high, low) in
    all_range (mark_at c.args.sign c.args.signs.now (texts c.args.lines.now)) _ _ _ 1200 same c.loop-place.invariant
