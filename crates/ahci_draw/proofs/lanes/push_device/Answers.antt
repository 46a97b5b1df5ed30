use Rattle.std.proofs.Common.{◌∙◌, ap, refl}
use Rattle.streams.proofs.FoundLemmas.{on_ok_from}
use Rattle.ahci_draw.specs.Lanes.{device_text}
use Rattle.ahci_draw.specs.Strip.{runs_text}
use Rattle.ahci_draw.specs.declared.strip.Strip.TheVariants.{Device}
use Rattle.ahci_draw.proofs.PieceLemmas.{four}
use Rattle.ahci_draw.proofs.lanes.push_device.Goals as goal

pub returns : goal.returns
unfolding device_text
returns g c =
    on_ok_from c.push-2.result _ _ c.push-2.ensures.ok
    (λ last. four _ _ _ _ _ _ _ _ _ _ _ _ _ c.in_ok-push_number.ensures c.in_ok-push.ensures.ok c.in_ok-push_runs.ensures last
    refl refl (ap (runs_text (Device c.args.lanes)) (c.deref.ensures.value ∙ c.in_ok-cells.ensures)) refl)
