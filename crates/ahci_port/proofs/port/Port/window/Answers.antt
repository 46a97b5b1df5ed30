use Rattle.std.proofs.Common.{None, ap, sym, ◌∙◌}
use Rattle.std.proofs.Math.ListN.{get_or-map}
use Rattle.ahci_port.specs.Keeping.{slot_at}
use Rattle.ahci_port.specs.Slots.{window_in}
use Rattle.ahci_port.proofs.port.Port.window.Goals as goal

pub returns : goal.returns
returns g c =
    rw (← c.self.view_is)
    (c.window_in.ensures ∙ ap (λ xs. window_in (slot_at xs c.args.tag)) c.deref.ensures.value
    ∙ sym (get_or-map window_in c.self.inside.slots.items c.args.tag None))
