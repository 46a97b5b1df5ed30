use Rattle.std.proofs.Common.{◌+◌, ap, codes, refl}
use Rattle.streams.proofs.FoundLemmas.{on_ok_from}
use Rattle.ahci_draw.specs.Overview.{row_name}
use Rattle.ahci_draw.specs.Text.{numbered}
use Rattle.ahci_draw.proofs.PieceLemmas.{four}
use Rattle.ahci_draw.proofs.overview.push_row_name.Goals as goal

pub returns : goal.returns
unfolding row_name
returns g c =
    on_ok_from c.push.result _ _ c.push.ensures.ok
    (λ last. four _ _ _ _ _ _ _ _ _ _ _ _ _ c.in_ok-push_number.ensures c.in_ok-push_number-2.ensures c.in_ok-push_number-3.ensures last
    (ap (λ left. numbered (codes "\n<text x='") (left + 36)) c.row_left.ensures) (ap (λ top. numbered (codes "' y='") (top + 20)) c.row_top.ensures) refl refl)
