-- One line more.
use Rattle.std.proofs.Common.{refl}
use Rattle.ahci_draw.specs.Grid.{across}
use Rattle.ahci_draw.proofs.PieceLemmas.{more_range, two}
use Rattle.ahci_draw.proofs.grid.push_across.Goals as goal

pub loop-lane-preserved : goal.loop-lane-preserved
unfolding across
loop-lane-preserved g c =
    more_range (across c.args.columns) _ _ _ c.loop-lane.lane c.loop-lane.invariant (two _ _ _ _ _ _ _ c.in_ok-push_number.ensures c.in_ok-push_number-2.ensures refl refl)
