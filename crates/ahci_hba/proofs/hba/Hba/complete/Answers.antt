-- The port's step, and the answer that was taken.
use Rattle.std.proofs.Common.{◌≡◌, true, [], ◌∷◌, None, Err, refl, ap, subst, sym, ◌∙◌}
use Rattle.ncq_journal.specs.Phase.{phase}
use Rattle.ahci_port.specs.Faults.{is_accepted, step_refusal}
use Rattle.ahci_port.specs.PortView.{owner_of}
use Rattle.ahci_port.specs.declared.step.DeviceStep.TheVariants.{Serve}
use Rattle.ahci_hba.specs.Queueing.{IsServed, command_at, list_in, task_in}
use Rattle.ahci_hba.proofs.RecoveringLemmas.{accepted_is_owned}
use Rattle.ahci_hba.proofs.ServeLemmas.{serves}
use Rattle.ahci_hba.proofs.SteppingLemmas.{no_fault, serves_accepted, taken_is_served}
use Rattle.ahci_hba.proofs.hba.Hba.complete.Goals as goal

pub returns : goal.returns
returns g c =
    subst (λ v. IsServed c.args.slot (task_in (command_at v c.args.slot)) (list_in (command_at v c.args.slot)) v c.hand_over.new.self) c.self.view_is
    (serves c.args.slot c.number-tag.result c.in-Some.number _ _ _ _ _ _ c.serve_one.result _ _ c.number-tag.ensures.value c.serve_one.ensures c.in-Ok.ensures.ok c.in-Ok-collect.ensures.ok c.in-Some.ensures c.in-Ok-collect.ensures.reply
    c.hand_over.ensures)

-- an accepted command has a request
pub unreachable-requires : goal.unreachable-requires
unreachable-requires g c =
    accepted_is_owned c.self.inside.port c.args.slot c.keeps_its_promise.ensures.headline
    (subst (λ v. is_accepted (phase v.port.past c.args.slot) ≡ true) (sym c.self.view_is) (serves_accepted _ _ c.args.self.now.port c.args.slot c.requires.taken))
    (ap (λ n. owner_of c.self.inside.port n) (sym c.number-tag.ensures.value) ∙ sym c.owner.ensures ∙ c.in_default.is)

-- and is one that the port serves
pub unreachable-requires-in_default-step : goal.unreachable-requires-in_default-step
unreachable-requires-in_default-step g c =
    no_fault (Err c.in_default-step.field-0) _ c.in_default-step.field-0 c.in_default-step.ensures.fault
    (ap (λ s. step_refusal c.self.inside.port s) c.serve_one.ensures
    ∙ ap (λ n. step_refusal c.self.inside.port (Serve (record { items = n ∷ [] }))) c.number-tag.ensures.value
    ∙ subst (λ v. step_refusal v.port (Serve (record { items = c.args.slot ∷ [] })) ≡ None) (sym c.self.view_is)
    (taken_is_served _ _ c.args.self.now.port c.args.slot c.requires.taken))
    refl
