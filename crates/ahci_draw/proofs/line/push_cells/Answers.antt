use Rattle.std.proofs.Common.{[], ◌∷◌, ap}
use Rattle.ahci_draw.specs.Line.{cell_at}
use Rattle.ahci_draw.proofs.PieceLemmas.{is_then, more_range}
use Rattle.ahci_draw.proofs.line.push_cells.Goals as goal

pub loop-tag-preserved : goal.loop-tag-preserved
loop-tag-preserved g c =
    more_range (cell_at c.args.tags.now) _ _ _ c.loop-tag.tag c.loop-tag.invariant
    (is_then _ _ _ _ c.in_ok-push.ensures.ok (ap (λ letter. letter ∷ []) c.cell.ensures))
