-- The port fails a request at its own sectors alone.
use Rattle.std.proofs.Common.{◌≡◌, false, true, refl, subst, sym}
use Rattle.ncq_journal.specs.Request.{request}
use Rattle.ahci_port.specs.Faults.{Answers, is_of_request, step_refusal}
use Rattle.ahci_port.specs.declared.step.DeviceStep.TheVariants.{Fail}
use Rattle.ahci_hba.specs.Stepping.{may_serve}
use Rattle.ahci_hba.proofs.AnswerLemmas.{fails_request}
use Rattle.ahci_hba.proofs.SteppingLemmas.{fails_at_its_own, fails_elsewhere}
use Rattle.ahci_hba.proofs.hba.Hba.fail_request.Goals as goal

pub returns-clause-answer : goal.returns-clause-answer
returns-clause-answer g c =
    sym (subst (λ v. is_of_request (request v.port.past c.args.slot) c.args.at ≡ true) c.self.view_is
    (fails_at_its_own c.step.result c.in-Ok.field-0 c.self.inside.port c.args.slot c.args.error c.args.at
    (subst (λ n. Answers c.step.result (step_refusal c.self.inside.port (Fail n c.args.error c.args.at))) c.number-tag.ensures.value c.step.ensures.fault) c.in-Ok.is))

pub returns-clause-failed : goal.returns-clause-failed
returns-clause-failed g c =
    λ e. fails_request c.args.slot c.number-tag.result c.args.error c.args.at _ _ _ c.step.new.self c.in-Ok.field-0 c.number-tag.ensures.value c.self.view_is refl c.in-Ok.ensures.ok

pub returns-in_default-clause-answer : goal.returns-in_default-clause-answer
returns-in_default-clause-answer g c =
    subst (λ v. false ≡ is_of_request (request v.port.past c.args.slot) c.args.at) c.self.view_is
    (fails_elsewhere c.step.result c.in_default.field-0 c.self.inside.port c.args.slot c.args.error c.args.at _ _
    (subst (λ n. Answers c.step.result (step_refusal c.self.inside.port (Fail n c.args.error c.args.at))) c.number-tag.ensures.value c.step.ensures.fault) c.in_default.is
    (subst (λ v. may_serve v c.args.slot ≡ true) (sym c.self.view_is) c.requires.taken))
