use Rattle.std.proofs.Common.{true, false, ap, refl, sym, ◌∙◌}
use Rattle.ncq_journal.specs.Halted.{halted}
use Rattle.ncq_journal.specs.Phase.{phase}
use Rattle.ahci_hba.proofs.OutlookLemmas.{sent_is}
use Rattle.ahci_hba.proofs.hba.Hba.sent_step.Goals as goal

pub returns-then-not-outlook : goal.returns-then-not-outlook
returns-then-not-outlook g c =
    sent_is c.args.self.now c.args.slot c.requires.outlook.listening c.requires.sent false _ _ (sym c.if-not-outlook.true ∙ c.requires.outlook.ready) refl refl

pub returns-then-halted : goal.returns-then-halted
returns-then-halted g c =
    sent_is c.args.self.now c.args.slot c.requires.outlook.listening c.requires.sent true true _ (sym c.if-not-outlook.false ∙ c.requires.outlook.ready)
    (c.if-halted.ensures ∙ ap (λ h. halted h.port.past) c.self.view_is) refl

pub returns : goal.returns
returns g c =
    c.step_in.ensures
    ∙ sent_is c.args.self.now c.args.slot c.requires.outlook.listening c.requires.sent true false c.phase.result (sym c.if-not-outlook.false ∙ c.requires.outlook.ready)
    (c.if-halted.ensures ∙ ap (λ h. halted h.port.past) c.self.view_is)
    (c.phase.ensures ∙ ap (λ h. phase h.port.past c.number.result) c.self.view_is ∙ ap (phase c.args.self.now.port.past) c.number.ensures.value)
