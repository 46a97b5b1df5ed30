use Rattle.std.proofs.Common.{length, ◌∙◌, arith}
use Rattle.ahci_table.specs.Text.{text}
use Rattle.ahci_port.proofs.MemoryLemmas.{fit_sized, replaced_range, room_here}
use Rattle.ahci_port.proofs.memory.MemoryHost.deliver_parts.Goals as goal

pub overflow_add-self : goal.overflow_add-self
overflow_add-self g c =
    let room = room_here _ _ (length c.args.payload.now) c.self.view_is c.requires.room in
    let sized = fit_sized c.self.inside.window c.self.invariant.0 in
    let short = c.self.invariant.2 in
    omega arith

pub returns-clause-text : goal.returns-clause-text
returns-clause-text g c =
    rw (← c.self.view_is)
    (c.scatter_in.ensures.scattered.text_is ∙ replaced_range c.self.inside.offset c.args.payload.now (text c.self.inside.window))
