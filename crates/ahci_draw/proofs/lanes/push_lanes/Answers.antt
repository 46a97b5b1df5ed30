-- One lane more.
use Rattle.ahci_draw.specs.Lanes.{lane_at}
use Rattle.ahci_draw.specs.Lines.{texts}
use Rattle.ahci_draw.proofs.PieceLemmas.{more_range}
use Rattle.ahci_draw.proofs.lanes.push_lanes.Goals as goal

pub loop-lane-preserved : goal.loop-lane-preserved
loop-lane-preserved g c = more_range (lane_at c.args.tags.now (texts c.args.lines.now)) _ _ _ c.loop-lane.lane c.loop-lane.invariant c.in_ok-push_lane.ensures
