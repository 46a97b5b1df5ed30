use Rattle.std.proofs.Common.{refl}
use Rattle.ahci_draw.specs.Grid.{grid_text}
use Rattle.streams.proofs.FoundLemmas.{on_ok_from}
use Rattle.ahci_draw.proofs.PieceLemmas.{four}
use Rattle.ahci_draw.proofs.grid.push_grid.Goals as goal

pub returns : goal.returns
unfolding grid_text
returns g c =
    on_ok_from c.push-2.result _ _ c.push-2.ensures.ok
    (λ last. four _ _ _ _ _ _ _ _ _ _ _ _ _ c.in_ok-push.ensures.ok c.in_ok-push_across.ensures c.in_ok-push_down.ensures last
    refl refl refl refl)
