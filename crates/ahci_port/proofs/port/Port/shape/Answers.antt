use Rattle.ahci_port.proofs.HeadlineLemmas.{shape_of}
use Rattle.ahci_port.proofs.port.Port.shape.Goals as goal

pub returns : goal.returns
returns g c = rw (← c.self.view_is) (shape_of _ _ _ c.self.inside.unqueued.sent c.self.inside.area _ _ c.self.inside.journal c.self.invariant c.depth-depth.ensures.disk)
