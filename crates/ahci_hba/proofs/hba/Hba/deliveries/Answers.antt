use Rattle.std.proofs.Common.{sym, ◌∙◌}
use Rattle.ahci_hba.proofs.OutlookLemmas.{no_steps, one_step}
use Rattle.ahci_hba.proofs.hba.Hba.deliveries.Goals as goal

pub returns-in_default : goal.returns-in_default
returns-in_default g c = no_steps c.args.self.now c.requires.unheard (sym c.delivering.ensures ∙ c.in_default.is)

pub returns : goal.returns
returns g c =
    one_step c.args.self.now c.in-Some.slot c.index.result c.delivery.result c.requires.unheard (sym c.delivering.ensures ∙ c.in-Some.is) c.index.ensures.value
    c.index.ensures.below c.delivery.ensures
