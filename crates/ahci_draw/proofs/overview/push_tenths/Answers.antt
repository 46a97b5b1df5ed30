-- The number of one tenth more.
use Rattle.std.proofs.Common.{◌*◌, ◌∙◌, ap, sym}
use Rattle.ahci_draw.specs.Lines.{texts}
use Rattle.ahci_draw.specs.Overview.{line_at, tenth_at}
use Rattle.ahci_draw.specs.Places.{edge}
use Rattle.ahci_draw.specs.Signs.{label_at}
use Rattle.ahci_draw.proofs.LinesLemmas.{texts_count}
use Rattle.ahci_draw.proofs.PieceLemmas.{is_then, more_range}
use Rattle.ahci_draw.proofs.overview.push_tenths.Goals as goal

pub loop-ten-preserved : goal.loop-ten-preserved
loop-ten-preserved g c =
    let lines = texts c.args.lines.now in
    let ten = c.loop-ten.ten in
    more_range (tenth_at lines) _ _ _ ten c.loop-ten.invariant
    (is_then _ _ _ _ c.in_ok-push_label_at.ensures (ap (label_at (10 * ten))
    (c.line_at-line.ensures ∙ ap (line_at lines) (c.edge.ensures.edge ∙ ap (λ n. edge n (120 * ten)) (sym (texts_count c.args.lines.now))))))
