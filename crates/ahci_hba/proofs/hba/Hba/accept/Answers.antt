-- The port's step, and its FIS.
use Rattle.std.proofs.Common.{◌≡◌, None, Err, refl, ap, sym, subst, ◌∙◌}
use Rattle.ahci_port.specs.Faults.{step_refusal}
use Rattle.ahci_port.specs.declared.step.DeviceStep.TheVariants.{Accept}
use Rattle.ahci_hba.specs.Queueing.{IsAccepted, command_at, has_alone}
use Rattle.ahci_hba.proofs.AnswerLemmas.{accepts}
use Rattle.ahci_hba.proofs.SteppingLemmas.{no_fault, waiting_is_taken}
use Rattle.ahci_hba.proofs.hba.Hba.accept.Goals as goal

pub returns-clause-ok : goal.returns-clause-ok
returns-clause-ok g c =
    subst (λ v. IsAccepted c.args.slot (has_alone (command_at v c.args.slot)) v c.wake.new.self) c.self.view_is
    (accepts c.args.slot c.number-tag.result c.has_alone-alone.result _ c.answer_acceptance.new.self c.wake.new.self c.step.new.self _ c.number-tag.ensures.value
    (c.has_alone-alone.ensures ∙ sym (ap (λ v. has_alone (command_at v c.args.slot)) c.self.view_is)) c.in-Ok.ensures.ok c.answer_acceptance.ensures c.wake.ensures)

-- a command that waits is one that the port takes
pub unreachable-requires : goal.unreachable-requires
unreachable-requires g c =
    no_fault (Err c.in_default.field-0) _ c.in_default.field-0 c.in_default.ensures.fault
    (ap (λ n. step_refusal c.self.inside.port (Accept n)) c.number-tag.ensures.value
    ∙ subst (λ v. step_refusal v.port (Accept c.args.slot) ≡ None) (sym c.self.view_is)
    (waiting_is_taken _ _ c.args.self.now.port c.args.slot (sym c.if-not-may_accept.ensures)))
    refl
