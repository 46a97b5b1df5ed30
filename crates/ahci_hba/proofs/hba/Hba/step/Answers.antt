-- The next step is possible: one that takes no memory does not fail, and another one fails for want of it.
use Rattle.std.proofs.Common.{Some, ap, sym, ◌∙◌}
use Rattle.std.proofs.lemmas.Bool.{true≢false}
use Rattle.ahci_hba.specs.declared.step.Step.TheVariants as step
use Rattle.ahci_hba.proofs.SteppingLemmas.{hands_on, lacks_memory, never_fails, next_is_possible}
use Rattle.ahci_hba.proofs.hba.Hba.step.Goals as goal

pub returns-in_err-fetch-in-Fetch-clause-err : goal.returns-in_err-fetch-in-Fetch-clause-err
returns-in_err-fetch-in-Fetch-clause-err g c =
    absurd (true≢false (sym (next_is_possible step.Fetch c.args.self.now c.args.slot (sym c.next.ensures ∙ c.in-Some.is ∙ ap Some c.in-Fetch.is)) ∙ c.in_err-fetch-in-Fetch.ensures.err.0))

pub returns-in_err-accept-in-Accept-clause-err : goal.returns-in_err-accept-in-Accept-clause-err
returns-in_err-accept-in-Accept-clause-err g c =
    absurd (true≢false (sym (next_is_possible step.Accept c.args.self.now c.args.slot (sym c.next.ensures ∙ c.in-Some.is ∙ ap Some c.in-Accept.is)) ∙ c.in_err-accept-in-Accept.ensures.err.1))

pub returns-in_err-serve-in-Serve-clause-err : goal.returns-in_err-serve-in-Serve-clause-err
returns-in_err-serve-in-Serve-clause-err g c =
    let next = sym c.next.ensures ∙ c.in-Some.is ∙ ap Some c.in-Serve.is in
    hands_on c.from_residual-in_err-serve-in-Serve.result c.in_err-serve-in-Serve.field-0.0 _ _ step.Serve _ c.from_residual-in_err-serve-in-Serve.ensures.1
    (next_is_possible step.Serve c.args.self.now c.args.slot next) next c.in_err-serve-in-Serve.ensures.err.0 c.in_err-serve-in-Serve.ensures.err.1

pub returns-in_err-send-in-Send-clause-err : goal.returns-in_err-send-in-Send-clause-err
returns-in_err-send-in-Send-clause-err g c =
    let next = sym c.next.ensures ∙ c.in-Some.is ∙ ap Some c.in-Send.is in
    hands_on c.from_residual-in_err-send-in-Send.result c.in_err-send-in-Send.field-0.0 _ _ step.Send _ c.from_residual-in_err-send-in-Send.ensures.1
    (next_is_possible step.Send c.args.self.now c.args.slot next) next c.in_err-send-in-Send.ensures.err.0 c.in_err-send-in-Send.ensures.err.1

pub returns-in_err-execute-in-Execute-clause-err : goal.returns-in_err-execute-in-Execute-clause-err
returns-in_err-execute-in-Execute-clause-err g c =
    let next = sym c.next.ensures ∙ c.in-Some.is ∙ ap Some c.in-Execute.is in
    hands_on c.from_residual-in_err-execute-in-Execute.result c.in_err-execute-in-Execute.field-0.0 _ _ step.Execute _ c.from_residual-in_err-execute-in-Execute.ensures.1
    (next_is_possible step.Execute c.args.self.now c.args.slot next) next c.in_err-execute-in-Execute.ensures.err.0 c.in_err-execute-in-Execute.ensures.err.1

pub returns-in_err-deliver-in-Deliver-clause-err : goal.returns-in_err-deliver-in-Deliver-clause-err
returns-in_err-deliver-in-Deliver-clause-err g c =
    let next = sym c.next.ensures ∙ c.in-Some.is ∙ ap Some c.in-Deliver.is in
    hands_on c.from_residual-in_err-deliver-in-Deliver.result c.in_err-deliver-in-Deliver.field-0.0 _ _ step.Deliver _ c.from_residual-in_err-deliver-in-Deliver.ensures.1
    (next_is_possible step.Deliver c.args.self.now c.args.slot next) next c.in_err-deliver-in-Deliver.ensures.err.0 c.in_err-deliver-in-Deliver.ensures.err.1

pub returns-in-Control-clause-err : goal.returns-in-Control-clause-err
returns-in-Control-clause-err g c =
    never_fails c.control.result _ _ _ (next_is_possible step.Control c.args.self.now c.args.slot (sym c.next.ensures ∙ c.in-Some.is ∙ ap Some c.in-Control.is)) c.control.ensures.err

pub returns-in-Recover-clause-err : goal.returns-in-Recover-clause-err
returns-in-Recover-clause-err g c =
    lacks_memory c.recover.result _ _ step.Recover _ (next_is_possible step.Recover c.args.self.now c.args.slot (sym c.next.ensures ∙ c.in-Some.is ∙ ap Some c.in-Recover.is))
    (sym c.next.ensures ∙ c.in-Some.is ∙ ap Some c.in-Recover.is) c.recover.ensures.err
