use Rattle.std.proofs.Common.{sym, ◌∙◌, ap, length}
use Rattle.ahci_driver.specs.Tickets.{is_as_long}
use Rattle.ahci_port.proofs.CollectingLemmas.{not_refused}
use Rattle.ahci_driver.proofs.CollectingLemmas.{text_length}
use Rattle.ahci_driver.proofs.collect.take_locked.Goals as goal

pub returns-clause-length : goal.returns-clause-length
returns-clause-length g c =
    let none = not_refused c.in-Ok.collected _ c.in-Ok.ensures.fault in
    let buffer = c.ticket.inside.buffer.items in
    let fits = ap (λ o. is_as_long o (length buffer)) (sym c.read_length-read.ensures) ∙ ap (λ b. is_as_long c.read_length-read.result (length b)) (sym c.deref.ensures.value) ∙ sym c.is_as_long.ensures in
    text_length c.args.port.now c.ticket.inside.tag c.ticket.inside.number
    (length c.ticket.inside.buffer.items) c.in-Ok.collected.2 _ c.keeps_its_promise.ensures.headline none c.in-Ok.ensures.reply c.in-Ok.ensures.window (fits ∙ c.if-not-is_as_long.false)
