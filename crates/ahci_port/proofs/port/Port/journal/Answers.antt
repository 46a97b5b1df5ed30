use Rattle.ahci_port.proofs.HeadlineLemmas.{headline_of}
use Rattle.ahci_port.proofs.port.Port.journal.Goals as goal

pub returns-clause-headline : goal.returns-clause-headline
returns-clause-headline g c = rw (← c.self.view_is)
    (headline_of c.self.inside.disk.starting c.self.inside.disk c.self.inside.registers c.self.inside.unqueued.sent c.self.inside.area c.self.inside.slots.items
    c.self.inside.headers c.self.inside.journal c.self.invariant)
