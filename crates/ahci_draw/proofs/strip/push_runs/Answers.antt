-- The runs of one place more.
use Rattle.ahci_draw.specs.Strip.{run_at}
use Rattle.ahci_draw.proofs.PieceLemmas.{more_range}
use Rattle.ahci_draw.proofs.strip.push_runs.Goals as goal

pub loop-place-preserved : goal.loop-place-preserved
loop-place-preserved g c = more_range (run_at c.args.strip c.args.cells.now) _ _ _ c.loop-place.place c.loop-place.invariant c.in_ok-push_run_at.ensures
