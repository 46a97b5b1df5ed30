use Rattle.ahci_port.proofs.HeadlineLemmas.{headline_of, shape_of}
use Rattle.ahci_port.proofs.port.Port.keeps_its_promise.Goals as goal

pub returns-clause-headline : goal.returns-clause-headline
returns-clause-headline g c = rw (← c.self.view_is) (headline_of _ _ _ c.self.inside.unqueued.sent c.self.inside.area _ _ c.self.inside.journal c.self.invariant)

pub returns-clause-shape : goal.returns-clause-shape
returns-clause-shape g c = rw (← c.self.view_is) (shape_of _ _ _ c.self.inside.unqueued.sent c.self.inside.area _ _ c.self.inside.journal c.self.invariant c.depth-depth.ensures.disk)
