use Rattle.ahci_port.proofs.ReadingLemmas.{keeps_acknowledge}
use Rattle.ahci_port.proofs.port.Port.acknowledge.Goals as goal

pub invariant_of-self : goal.invariant_of-self
invariant_of-self g c = rw c.write.ensures
    (keeps_acknowledge c.self.inside.disk.starting c.self.inside.disk c.self.inside.registers c.self.inside.slots.items
    c.self.inside.headers c.self.inside.journal.past c.self.inside.journal.room c.args.mask c.self.invariant)
