use Rattle.std.proofs.Common.{arith}
use Rattle.std.proofs.lemmas.Bool.{le-ltb}
use Rattle.ncq_core.specs.DiskState.{new_fault}
use Rattle.ahci_port.specs.Faults.{most_first}
use Rattle.ahci_port.proofs.ReadingLemmas.{resumed}
use Rattle.ahci_port.proofs.port.Port+A.resume.Goals as goal

pub returns-in-Ok-clause-fault : goal.returns-in-Ok-clause-fault
returns-in-Ok-clause-fault g c =
    resumed c.in-Ok.port (new_fault c.args.image.items c.args.depth) c.args.first c.in-Ok.ensures.fault
    (le-ltb most_first c.args.first (let low = c.if-first-gt-MOST_FIRST.false in omega arith))
