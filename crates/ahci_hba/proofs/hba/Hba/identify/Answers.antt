use Rattle.std.proofs.Common.{ap, subst, ◌∙◌}
use Rattle.hba_command.specs.Pages.{controller_page}
use Rattle.ahci_hba.specs.Executing.{Identifies}
use Rattle.ahci_hba.specs.Queueing.{command_at, list_in}
use Rattle.ahci_hba.proofs.DeliveringLemmas.{identifies}
use Rattle.ahci_hba.proofs.hba.Hba.identify.Goals as goal

pub returns-in-Ok-clause-ok : goal.returns-in-Ok-clause-ok
returns-in-Ok-clause-ok g c =
    subst (λ v. Identifies c.args.slot (list_in (command_at v c.args.slot)) v c.give_page.new.self) c.self.view_is
    (identifies c.args.slot _ c.give_page.new.self c.identify.new.self _ c.in-Ok.ensures.identified
    (c.in_ok-page.ensures.items ∙ c.controller_page-page.ensures ∙ ap (λ n. controller_page n c.self.inside.depth c.self.inside.device) c.sectors.ensures) c.give_page.ensures)
