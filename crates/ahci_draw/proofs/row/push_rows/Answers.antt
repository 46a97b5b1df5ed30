use Rattle.std.proofs.Common.{◌≡◌, ◌∙◌, ap, arith, length, sym}
use Rattle.ahci_draw.specs.Lines.{texts}
use Rattle.ahci_draw.specs.Row.{row_at, row_text, rows_in, rows_text}
use Rattle.ahci_draw.proofs.LinesLemmas.{texts_count}
use Rattle.ahci_draw.proofs.PieceLemmas.{all_range, is_then, more_range}
use Rattle.ahci_draw.proofs.row.push_rows.Goals as goal

pub loop-row-preserved : goal.loop-row-preserved
loop-row-preserved g c =
    more_range (row_at c.args.tags.now (texts c.args.lines.now)) _ _ _ c.loop-row.row c.loop-row.invariant
    (is_then _ _ _ _ c.in_ok-push_row.ensures (ap (λ l. row_text c.args.tags.now l c.loop-row.row) c.row_of.ensures))

pub returns : goal.returns
unfolding rows_text
returns g c =
    let high = c.loop-row-test.false in
    let low = c.loop-row.auto.row-end in
    let end : c.loop-row.row ≡ c.rows_in-row-end.result = omega (arith, high, low) in
    let count : c.loop-row.row ≡ rows_in (length (texts c.args.lines.now)) = end ∙ c.rows_in-row-end.ensures ∙ ap rows_in (sym (texts_count c.args.lines.now)) in
    all_range (row_at c.args.tags.now (texts c.args.lines.now)) _ _ _ _ count c.loop-row.invariant
