use Rattle.ahci_driver.proofs.FinishingLemmas.{received_by}
use Rattle.ahci_driver.proofs.worker.Worker.one.Goals as goal

pub returns-clause-received : goal.returns-clause-received
returns-clause-received g c =
    received_by g.C.Chooser.gives c.args.self.now.chooser c.submitted.new.self.chooser c.answered.new.self.chooser c.in_ok-ticket.ticket.tag
    c.in_ok-reply.reply.number c.in_ok-reply.reply.entry c.in_ok-reply.reply.outcome c.in_ok-reply.bytes.items _ c.in_ok-ticket.ensures.waited
    c.in_ok-reply.ensures.answered c.from_vec-bytes.ensures.bytes
