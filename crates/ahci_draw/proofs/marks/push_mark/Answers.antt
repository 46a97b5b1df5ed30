use Rattle.std.proofs.Common.{◌∙◌, ap, refl}
use Rattle.streams.proofs.FoundLemmas.{on_ok_from}
use Rattle.ahci_draw.specs.Overview.{mark_colour, mark_head, mark_shape}
use Rattle.ahci_draw.proofs.PieceLemmas.{four}
use Rattle.ahci_draw.proofs.marks.push_mark.Goals as goal

pub returns : goal.returns
unfolding mark_shape
returns g c =
    on_ok_from c.push-2.result _ _ c.push-2.ensures.ok
    (λ last. four _ _ _ _ _ _ _ _ _ _ _ _ _ c.in_ok-push_mark_head.ensures c.in_ok-push.ensures.ok c.in_ok-push_more.ensures last
    (ap (λ colour. mark_head colour c.args.place c.mark_top.result c.args.index) c.mark_colour.ensures
    ∙ ap (λ top. mark_head (mark_colour c.args.sign) c.args.place top c.args.index) c.mark_top.ensures) refl refl refl)
