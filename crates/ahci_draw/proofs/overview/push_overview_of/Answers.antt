use Rattle.std.proofs.Common.{refl}
use Rattle.streams.proofs.FoundLemmas.{on_ok_from}
use Rattle.ahci_draw.specs.Overview.{overview_of}
use Rattle.ahci_draw.proofs.PieceLemmas.{four}
use Rattle.ahci_draw.proofs.overview.push_overview_of.Goals as goal

pub returns : goal.returns
unfolding overview_of
returns g c =
    on_ok_from c.push-2.result _ _ c.push-2.ensures.ok
    (λ last. four _ _ _ _ _ _ _ _ _ _ _ _ _ c.in_ok-push_counts.ensures c.in_ok-push.ensures.ok c.in_ok-push_strip.ensures last refl refl refl refl)
