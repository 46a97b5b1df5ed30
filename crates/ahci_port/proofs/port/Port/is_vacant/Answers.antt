use Rattle.std.proofs.Common.{◌∙◌, ap, not, is_some}
use Rattle.std.specs.List.{list_any}
use Rattle.ahci_port.proofs.TrimmingLemmas.{windows_owned}
use Rattle.ahci_port.proofs.port.Port.is_vacant.Goals as goal

pub returns : goal.returns
returns g c =
    rw (← c.self.view_is)
    (ap not (c.is_any_owned.ensures ∙ ap (list_any is_some) c.deref.ensures.value ∙ windows_owned c.self.inside.slots.items))
