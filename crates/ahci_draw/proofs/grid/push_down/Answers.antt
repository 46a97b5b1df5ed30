-- One line more.
use Rattle.std.proofs.Common.{refl}
use Rattle.ahci_draw.specs.Grid.{down}
use Rattle.ahci_draw.proofs.PieceLemmas.{more_range, two}
use Rattle.ahci_draw.proofs.grid.push_down.Goals as goal

pub loop-ten-preserved : goal.loop-ten-preserved
unfolding down
loop-ten-preserved g c =
    more_range (down c.args.lanes) _ _ _ c.loop-ten.ten c.loop-ten.invariant (two _ _ _ _ _ _ _ c.in_ok-push_number.ensures c.in_ok-push_number-2.ensures refl refl)
