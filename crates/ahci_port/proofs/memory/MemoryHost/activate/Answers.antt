use Rattle.std.proofs.Common.{length, drop, ap, arith}
use Rattle.std.proofs.lemmas.List.{length-take, length-drop}
use Rattle.ahci_table.specs.Text.{text}
use Rattle.ahci_port.proofs.MemoryLemmas.{fit_sized, room_here}
use Rattle.ahci_port.proofs.memory.MemoryHost.activate.Goals as goal

pub overflow_add-self : goal.overflow_add-self
overflow_add-self g c =
    let room = room_here _ _ (length (drop 4 c.args.out.now)) c.self.view_is c.requires.room in
    let sized = fit_sized c.self.inside.window c.self.invariant.0 in
    let short = c.self.invariant.2 in
    let len = ap length c.gather_in.ensures in
    omega (arith, length-take (length c.split_at_mut-head.result.1.now) (drop c.self.inside.offset (text c.self.inside.window)), length-drop c.self.inside.offset (text c.self.inside.window))
