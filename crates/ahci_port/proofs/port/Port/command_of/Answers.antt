use Rattle.std.proofs.Common.{◌≡◌, None, sym, ◌∙◌, subst}
use Rattle.ahci_port.specs.Faults.{MayTake, RefusesIssue, early_refusal}
use Rattle.ahci_port.proofs.TakenLemmas.{early_may, refuses_rule}
use Rattle.ahci_port.proofs.port.Port.command_of.Goals as goal

pub returns-in-Ok-clause-taken : goal.returns-in-Ok-clause-taken
returns-in-Ok-clause-taken g c =
    let none : early_refusal c.args.self.now c.tag.result ≡ None = sym c.early_fault.ensures ∙ c.in_default.is in
    let may = early_may c.args.self.now c.tag.result none in
    (subst (λ t. MayTake c.args.self.now t) c.tag.ensures.value may, c.in-Ok.ensures.fit)

pub returns-in-Err-clause-fault : goal.returns-in-Err-clause-fault
returns-in-Err-clause-fault g c =
    let port = c.args.self.now in
    let w = c.args.window.now in
    let none : early_refusal port c.tag.result ≡ None = sym c.early_fault.ensures ∙ c.in_default.is in
    let may = early_may port c.tag.result none in
    subst (λ f. RefusesIssue port w f) (sym c.issue_fault.ensures)
    (refuses_rule port w c.in-Err.fault (subst (λ t. MayTake port t) c.tag.ensures.value may) c.in-Err.ensures.fault)
