use Rattle.std.proofs.Common.{refl}
use Rattle.streams.proofs.FoundLemmas.{on_ok_from}
use Rattle.ahci_draw.specs.Overview.{strip_text}
use Rattle.ahci_draw.proofs.PieceLemmas.{five}
use Rattle.ahci_draw.proofs.overview.push_strip.Goals as goal

pub returns : goal.returns
unfolding strip_text
returns g c =
    on_ok_from c.push_marks-2.result _ _ c.push_marks-2.ensures
    (λ last. five _ _ _ _ _ _ _ _ _ _ _ _ _ _ _ _ c.in_ok-push_grid.ensures c.in_ok-push_tenths.ensures c.in_ok-push.ensures.ok c.in_ok-push_marks.ensures last
    refl refl refl refl refl)
