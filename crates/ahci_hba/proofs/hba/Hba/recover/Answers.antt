use Rattle.std.proofs.Common.{ap, subst, sym, ◌∙◌}
use Rattle.ahci_hba.specs.Queueing.{command_at}
use Rattle.ahci_hba.specs.Recovering.{ReadsErrorLog, error_log_in}
use Rattle.ahci_hba.proofs.RecoveringLemmas.{reads, still_sound}
use Rattle.ahci_hba.proofs.hba.Hba.recover.Goals as goal

pub invariant_of-self-2 : goal.invariant_of-self-2
invariant_of-self-2 g c = still_sound _ _ _ _ _ _ _ _ c.self.invariant c.in-Ok.ensures.ok c.reset-journal.ensures.port

pub returns-clause-ok : goal.returns-clause-ok
returns-clause-ok g c =
    subst (λ v. ReadsErrorLog c.args.slot v c.give_page.new.self c.reset-journal.result) c.self.view_is
    (reads c.args.slot c.in-Some.protocol _ c.give_page.new.self _ _ _ _ _ c.reset-journal.result
    (ap (λ v. error_log_in (command_at v c.args.slot)) c.self.view_is ∙ sym c.error_log_in.ensures ∙ c.in-Some.is)
    c.in-Ok.ensures.ok c.reset-journal.ensures.port c.reset-journal.ensures.journal (c.filled.ensures ∙ c.error_page.ensures) c.give_page.ensures)
