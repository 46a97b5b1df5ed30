use Rattle.std.proofs.Common.{◌∙◌, ap}
use Rattle.ahci_port.specs.Keeping.{slot_at}
use Rattle.ahci_port.specs.Slots.{read_in}
use Rattle.ahci_port.proofs.LookingLemmas.{read_here}
use Rattle.ahci_port.proofs.port.Port.read_length.Goals as goal

pub returns : goal.returns
returns g c =
    rw (← c.self.view_is)
    (c.read_in.ensures ∙ ap (λ xs. read_in (slot_at xs c.args.tag)) c.deref.ensures.value
    ∙ read_here c.self.inside.disk.starting c.self.inside.journal.past c.args.tag (slot_at c.self.inside.slots.items c.args.tag) (c.self.invariant.each c.args.tag))
