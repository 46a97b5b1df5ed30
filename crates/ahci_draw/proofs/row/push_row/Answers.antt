use Rattle.std.proofs.Common.{ap, codes, length, refl, sym}
use Rattle.ahci_draw.specs.Grid.{grid_text}
use Rattle.ahci_draw.specs.Row.{row_text}
use Rattle.ahci_draw.specs.Text.{numbered}
use Rattle.ahci_draw.proofs.LinesLemmas.{texts_count}
use Rattle.streams.proofs.FoundLemmas.{on_ok_from}
use Rattle.ahci_draw.proofs.PieceLemmas.{eight}
use Rattle.ahci_draw.proofs.row.push_row.Goals as goal

pub returns : goal.returns
unfolding row_text
returns g c =
    on_ok_from c.push-2.result _ _ c.push-2.ensures.ok
    (λ last. eight _ _ _ _ _ _ _ _ _ _ _ _ _ _ _ _ _ _ _ _ _ _ _ _ _ c.in_ok-push_number.ensures c.in_ok-push_number-2.ensures c.in_ok-push.ensures.ok c.in_ok-push_grid.ensures c.in_ok-push_heads.ensures c.in_ok-push_lanes.ensures c.in_ok-push_device.ensures last
    (ap (numbered (codes "\n<g transform='translate(")) c.row_left.ensures) (ap (numbered (codes " ")) c.row_top.ensures) refl (ap (grid_text (length c.args.tags.now)) (sym (texts_count c.args.lines.now))) refl refl refl refl)
