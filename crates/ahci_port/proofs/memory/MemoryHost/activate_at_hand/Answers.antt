use Rattle.std.proofs.Common.{arith}
use Rattle.ahci_port.proofs.MemoryLemmas.{fit_sized, room_here}
use Rattle.ahci_port.proofs.memory.MemoryHost.activate_at_hand.Goals as goal

pub overflow_add-self : goal.overflow_add-self
overflow_add-self g c =
    let room = room_here _ _ c.args.len c.self.view_is c.requires.room in
    let sized = fit_sized c.self.inside.window c.self.invariant.0 in
    let short = c.self.invariant.2 in
    omega arith
