use Rattle.std.proofs.Common.{◌≡◌, ap, arith, length, sym}
use Rattle.ahci_draw.specs.Lines.{texts}
use Rattle.ahci_draw.specs.Signs.{column_sign, sign_at, signs_text}
use Rattle.ahci_draw.proofs.LinesLemmas.{line_at, texts_count}
use Rattle.ahci_draw.proofs.PieceLemmas.{all_range, is_then, more_range}
use Rattle.ahci_draw.proofs.signs.push_signs.Goals as goal

pub loop-column-preserved : goal.loop-column-preserved
loop-column-preserved g c =
    more_range (column_sign c.args.lane c.args.foot (texts c.args.lines.now)) _ _ _ c.loop-column.column c.loop-column.invariant
    (is_then _ _ _ _ c.in_ok-push_sign_at.ensures (ap (sign_at c.args.lane c.args.foot c.loop-column.column) (sym (line_at c.args.lines.now c.loop-column.column _ c.loop-column-test.true))))

pub returns : goal.returns
unfolding signs_text
returns g c =
    let high = c.loop-column-test.false in
    let low = c.loop-column.auto.column-end in
    let count = texts_count c.args.lines.now in
    let same : c.loop-column.column ≡ length (texts c.args.lines.now) = omega (arith, high, low, count) in
    all_range (column_sign c.args.lane c.args.foot (texts c.args.lines.now)) _ _ _ _ same c.loop-column.invariant
