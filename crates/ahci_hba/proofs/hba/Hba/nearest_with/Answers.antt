use Rattle.std.proofs.Common.{◌+◌, Some, subst, sym}
use Rattle.ahci_hba.specs.Outlook.{IsNearest}
use Rattle.ahci_hba.proofs.OutlookLemmas.{nearest_more, nearest_same}
use Rattle.ahci_hba.proofs.hba.Hba.nearest_with.Goals as goal

pub returns-then-waits : goal.returns-then-waits
returns-then-waits g c =
    subst (λ n. IsNearest c.args.self.now (c.args.slot + 1) (Some n)) (sym c.nearer.ensures)
    (nearest_more c.args.self.now c.args.slot c.args.nearest c.distance.result (sym c.if-waits.ensures) c.distance.ensures c.requires.below)

pub returns-else-waits : goal.returns-else-waits
returns-else-waits g c = nearest_same c.args.self.now c.args.slot c.args.nearest (sym c.if-waits.ensures) c.requires.below
