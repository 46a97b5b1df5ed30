use Rattle.std.proofs.Common.{ap, sym, ◌∙◌}
use Rattle.ahci_hba.specs.Stepping.{fault_if}
use Rattle.ahci_hba.proofs.SendingLemmas.{on_ok, sends, stands_again}
use Rattle.ahci_hba.proofs.SteppingLemmas.{if_err, sent_is_taken}
use Rattle.ahci_hba.proofs.hba.Hba.send.Goals as goal

pub send_command-requires : goal.send_command-requires
send_command-requires g c =
    sent_is_taken _ _ c.args.self.now _ c.args.slot _ _ _ (sym c.if-not-may_send.ensures) c.take_fetched-task.ensures.command c.take_fetched-task.ensures.slots

pub returns-clause-ok : goal.returns-clause-ok
returns-clause-ok g c =
    on_ok c.send_command.result (λ h. sends c.args.slot _ _ _ c.args.self.now _ _ c.take_fetched-task.ensures.command c.take_fetched-task.ensures.slots h) c.send_command.ensures.ok

pub returns-clause-err : goal.returns-clause-err
returns-clause-err g c =
    if_err c.send_command.result (λ e h. (
      h.0 ∙ ap fault_if c.if-not-may_send.ensures,
      stands_again c.args.slot _ _ _ c.args.self.now _ _ c.take_fetched-task.ensures.command c.take_fetched-task.ensures.slots h.1,
    )) c.send_command.ensures.err
