use Rattle.std.proofs.Common.{◌+◌, ◌-◌, length, drop, ap, ◌∙◌, arith}
use Rattle.std.proofs.lemmas.List.{take_all, length-drop}
use Rattle.ahci_table.specs.Text.{text, replaced}
use Rattle.ahci_port.proofs.MemoryLemmas.{fit_sized, replaced_range, room_here}
use Rattle.ahci_port.proofs.memory.MemoryHost.deliver.Goals as goal

pub overflow_add-self : goal.overflow_add-self
overflow_add-self g c =
    let room = room_here _ _ (length (drop 4 c.args.fis.now)) c.self.view_is c.requires.room in
    let sized = fit_sized c.self.inside.window c.self.invariant.0 in
    let short = c.self.invariant.2 in
    let all = take_all (length c.args.fis.now - 4) (drop 4 c.args.fis.now) (omega (arith, length-drop 4 c.args.fis.now)) in
    rw all (omega arith)

pub returns-clause-text : goal.returns-clause-text
returns-clause-text g c =
    let all = take_all (length c.args.fis.now - 4) (drop 4 c.args.fis.now) (omega (arith, length-drop 4 c.args.fis.now)) in
    rw (← c.self.view_is)
    (c.scatter_in.ensures.scattered.text_is ∙ ap (λ x. replaced c.self.inside.offset x (text c.self.inside.window)) all
    ∙ replaced_range c.self.inside.offset (drop 4 c.args.fis.now) (text c.self.inside.window))

pub returns-clause-offset : goal.returns-clause-offset
returns-clause-offset g c =
    let all = take_all (length c.args.fis.now - 4) (drop 4 c.args.fis.now) (omega (arith, length-drop 4 c.args.fis.now)) in
    rw (← c.self.view_is) (ap (λ x. c.self.inside.offset + length x) all)
