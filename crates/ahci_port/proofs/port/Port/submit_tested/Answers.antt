use Rattle.std.proofs.Common.{sym, subst}
use Rattle.ncq_journal.specs.Work.{lba_of, sectors_of, work_of}
use Rattle.ahci_port.specs.Faults.{MayTake}
use Rattle.ahci_port.proofs.TakenLemmas.{submit_may}
use Rattle.ahci_port.proofs.port.Port.submit_tested.Goals as goal

pub enter-requires-clause-taken : goal.enter-requires-clause-taken
enter-requires-clause-taken g c =
    let port = c.args.self.now in
    let work = work_of c.args.op in
    subst (λ t. MayTake port t) (sym c.in-Ok-over_layout.ensures.bytes.tag_is) (submit_may port c.args.tag (lba_of work) (sectors_of work) c.requires.free)
