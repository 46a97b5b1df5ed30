use Rattle.std.proofs.Common.{subst}
use Rattle.ahci_hba.specs.Queueing.{IsSent}
use Rattle.ahci_hba.proofs.SendingLemmas.{sent_by_port}
use Rattle.ahci_hba.proofs.hba.Hba.send_command.Goals as goal

pub returns-in-Ok-clause-ok : goal.returns-in-Ok-clause-ok
returns-in-Ok-clause-ok g c =
    subst (λ v. IsSent c.args.slot c.args.task c.args.list.items c.args.bytes.items v c.put.new.self) c.self.view_is
    (sent_by_port c.args.slot c.number.result c.args.task c.args.list.items c.args.bytes.items _ c.put.new.self c.submit_tested.new.self _ c.number.ensures.value c.in-Ok.ensures.submitted c.asked-op.ensures.asked c.put.ensures)
