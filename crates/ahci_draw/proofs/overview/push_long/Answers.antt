use Rattle.std.proofs.Common.{◌∙◌, ap, length, refl, sym}
use Rattle.streams.proofs.FoundLemmas.{on_ok_from}
use Rattle.ahci_draw.specs.Overview.{long_text, row_names}
use Rattle.ahci_draw.specs.Row.{rows_in}
use Rattle.ahci_draw.proofs.LinesLemmas.{texts_count}
use Rattle.ahci_draw.proofs.PieceLemmas.{five}
use Rattle.ahci_draw.proofs.overview.push_long.Goals as goal

pub returns : goal.returns
unfolding long_text
returns g c =
    on_ok_from c.push-2.result _ _ c.push-2.ensures.ok
    (λ last. five _ _ _ _ _ _ _ _ _ _ _ _ _ _ _ _ c.in_ok-push_overview.ensures c.in_ok-push.ensures.ok c.in_ok-push_row_names.ensures c.in_ok-push_rows.ensures last
    refl refl (ap (row_names (length c.args.tags.now)) (c.rows_in.ensures ∙ ap rows_in (sym (texts_count c.args.lines.now)))) refl refl)
