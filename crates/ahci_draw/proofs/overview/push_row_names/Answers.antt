-- The number of one row more.
use Rattle.ahci_draw.specs.Overview.{row_name}
use Rattle.ahci_draw.proofs.PieceLemmas.{more_range}
use Rattle.ahci_draw.proofs.overview.push_row_names.Goals as goal

pub loop-row-preserved : goal.loop-row-preserved
loop-row-preserved g c = more_range (row_name c.args.lanes) _ _ _ c.loop-row.row c.loop-row.invariant c.in_ok-push_row_name.ensures
