use Rattle.std.proofs.Common.{◌+◌, ◌*◌, ◌∙◌, ap, refl}
use Rattle.streams.proofs.FoundLemmas.{on_ok_from}
use Rattle.ahci_draw.specs.Lanes.{lane_text, name_shape}
use Rattle.ahci_draw.specs.Lines.{texts}
use Rattle.ahci_draw.specs.Signs.{signs_text}
use Rattle.ahci_draw.specs.Strip.{runs_text}
use Rattle.ahci_draw.specs.declared.strip.Strip.TheVariants.{Lane}
use Rattle.ahci_draw.proofs.PieceLemmas.{three}
use Rattle.ahci_draw.proofs.lanes.push_lane.Goals as goal

pub returns : goal.returns
unfolding lane_text name_shape
returns g c =
    on_ok_from c.push_signs.result _ _ c.push_signs.ensures
    (λ last. three _ _ _ _ _ _ _ _ _ _
    (three _ _ _ _ _ _ _ _ _ _ c.in_ok-push_number.ensures c.in_ok-push_number-2.ensures c.in_ok-push.ensures.ok refl refl refl) c.in_ok-push_runs.ensures last
    refl (ap (runs_text (Lane c.args.lane)) (c.deref.ensures.value ∙ c.in_ok-cells.ensures))
    (ap (λ sign. signs_text sign (16 * c.args.lane + 35) (texts c.args.lines.now)) c.letter.ensures))
