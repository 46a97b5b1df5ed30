use Rattle.std.proofs.Common.{◌/◌, length, arith}
use Rattle.std.proofs.lemmas.Bool.{le-ltb}
use Rattle.ncq_core.specs.DiskState.{over_fault}
use Rattle.ahci_port.specs.Faults.{most_first}
use Rattle.ahci_port.proofs.ReadingLemmas.{resumed}
use Rattle.ahci_port.proofs.port.Port.resume_over.Goals as goal

pub returns-in-Ok-clause-fault : goal.returns-in-Ok-clause-fault
returns-in-Ok-clause-fault g c =
    resumed c.in-Ok.port (over_fault (length (g.S.SectorStore.image c.args.store) / 512) c.args.depth) c.args.first c.in-Ok.ensures.fault
    (le-ltb most_first c.args.first (let low = c.if-first-gt-MOST_FIRST.false in omega arith))
