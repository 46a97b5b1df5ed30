use Rattle.std.proofs.Common.{◌∙◌, ap}
use Rattle.ahci_port.specs.Slots.{phase_in}
use Rattle.ahci_port.specs.Keeping.{slot_at}
use Rattle.ahci_port.proofs.ReadingLemmas.{phase_here}
use Rattle.ahci_port.proofs.port.Port.phase.Goals as goal

pub returns : goal.returns
returns g c = rw (← c.self.view_is) (c.phase_in.ensures ∙ ap (λ xs. phase_in (slot_at xs c.args.tag)) c.deref.ensures.value
    ∙ phase_here c.self.inside.disk.starting c.self.inside.journal.past c.args.tag (slot_at c.self.inside.slots.items c.args.tag) (c.self.invariant.each c.args.tag))
