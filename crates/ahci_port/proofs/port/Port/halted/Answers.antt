use Rattle.std.proofs.Common.{◌∙◌}
use Rattle.ahci_port.proofs.ReadingLemmas.{stopped_here}
use Rattle.ahci_port.proofs.port.Port.halted.Goals as goal

pub returns : goal.returns
returns g c = rw (← c.self.view_is) (c.stopped.ensures
    ∙ stopped_here c.self.inside.disk.starting c.self.inside.disk c.self.inside.registers c.self.inside.slots.items
    c.self.inside.headers c.self.inside.journal.past c.self.inside.journal.room c.self.invariant)
