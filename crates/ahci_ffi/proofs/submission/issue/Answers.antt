use Rattle.std.proofs.Common.{◌≡◌, ◌∙◌, None, Some, length, ap, refl, subst, sym}
use Rattle.ahci_port.specs.Faults.{early_refusal}
use Rattle.ahci_ffi.specs.Asked.{is_answered, lacks_memory}
use Rattle.ahci_ffi.specs.Done.{AnswersWindow}
use Rattle.ahci_ffi.specs.declared.status.Status.TheVariants.{Refused}
use Rattle.ahci_ffi.proofs.ArgumentLemmas.{asked_none, asked_sized, asked_some, on_sized, on_unsized, window_named}
use Rattle.ahci_ffi.proofs.submission.issue.Goals as goal

pub returns-in-Ok-window_over : goal.returns-in-Ok-window_over
returns-in-Ok-window_over g c =
    let s = c.in-Ok.ensures.ok in
    let early : early_refusal c.args.port.now c.args.tag ≡ None = ap (early_refusal c.args.port.now) (sym s.2) ∙ sym c.early_fault.ensures ∙ c.in_default.is in
    on_sized _ _ _ _ (asked_none c.args.port.now c.args.tag (length c.args.header.now) s.0 early)
    (is_answered (subst (λ w. AnswersWindow w c.hand_in.result c.args.port.now c.hand_in.new.port c.args.number.now c.hand_in.new.number)
    (window_named _ _ _ _ _ _ c.in-Ok-window_over.ensures s.2 s.3) c.hand_in.ensures))

pub returns-in-Err-window_over : goal.returns-in-Err-window_over
returns-in-Err-window_over g c =
    let s = c.in-Ok.ensures.ok in
    let early : early_refusal c.args.port.now c.args.tag ≡ None = ap (early_refusal c.args.port.now) (sym s.2) ∙ sym c.early_fault.ensures ∙ c.in_default.is in
    on_sized _ _ _ _ (asked_none c.args.port.now c.args.tag (length c.args.header.now) s.0 early) (lacks_memory c.into-in-Err-window_over.ensures refl refl)

pub returns-in-Some : goal.returns-in-Some
returns-in-Some g c =
    let s = c.in-Ok.ensures.ok in
    let early : early_refusal c.args.port.now c.args.tag ≡ Some c.in-Some.fault = ap (early_refusal c.args.port.now) (sym s.2) ∙ sym c.early_fault.ensures ∙ c.in-Some.is in
    on_unsized _ _ _ _ _ (asked_some c.args.port.now c.args.tag (length c.args.header.now) _ s.0 early) (ap (λ reason. Refused reason) c.into.ensures) (refl, refl)

pub returns-in-Err : goal.returns-in-Err
returns-in-Err g c = on_unsized _ _ _ _ _ (asked_sized c.args.port.now c.args.tag (length c.args.header.now) _ c.in-Err.ensures.refused) refl (refl, refl)
