-- What is answered of an issue.
use Rattle.std.proofs.Common.{◌≡◌, ℕ, Option, Some, None, Result, Ok, Err, IfOk, IfErr, IsErr, IsOkAnd, OnOk, OnErr, MatchOption, refl, sym, ap, ◌∙◌}
use Rattle.std.specs.Option.{option_map}
use Rattle.std.proofs.lemmas.Bool.{true≢false}
use Rattle.ahci_replay.specs.Refusals.{of_issue}
use Rattle.ahci_port.specs.Faults.{MayTake, RefusesIssue}
use Rattle.ahci_port.specs.Steps.{IsIssued}
use Rattle.ahci_port.specs.declared.fault.IssueFault.{IssueFault}
use Rattle.ahci_table.specs.Fit.{IsFit}
use Rattle.ahci_table.specs.Window.{WindowState}
use Rattle.ahci_port.specs.PortView.{PortView, next_number}
use Rattle.ahci_script.specs.Said.{Said}
use Rattle.ahci_script.specs.Said as says
use Rattle.ahci_replay.specs.Commands.{AnswersWindow, is_issued, is_refused, issue_said}
use Rattle.port_refusal.specs.declared.refusal.Refusal.{Refusal}

-- what came of an issue is reported so
pub told_answer : (T E : Type 0) (say : T → Said) (w : WindowState) (old new : PortView) (issued : Result ℕ (WindowState × IssueFault)) (o : Result T E)
    → OnOk issued (IsIssued w old new) → OnOk issued (MayTake old w.tag × IsFit w) → IfOk issued (λ n. n ≡ next_number old)
    → IfErr issued (λ e. RefusesIssue old w e.1) → IfErr issued (λ e. (e.0 ≡ w) × (new ≡ old))
    → MatchOption (issue_said issued) (IsErr o) (λ says. IsOkAnd o (λ a. say a ≡ says)) → IfOk o (λ a. AnswersWindow w old new (say a))
told_answer T E say w old new issued (Err f) done may number refuses same told = tt
told_answer T E say w old new (Ok n) (Ok a) done may number refuses same told = is_issued may.0 may.1 done (told ∙ ap says.Issued number)
told_answer T E say w old new (Err e) (Ok a) done may number refuses same told = named (of_issue e.1) refl told
  where
    named : (q : Option Refusal) → of_issue e.1 ≡ q → MatchOption (option_map says.Refused q) (IsErr {T = T} {E = E} (Ok a)) (λ x. say a ≡ x) → AnswersWindow w old new (say a)
    named None is bad = absurd (true≢false (sym bad))
    named (Some name) is said = is_refused e.1 name refuses is same.1 said

-- where memory was wanting, nothing has changed
pub told_same : (T E : Type 0) (say : T → Said) (w : WindowState) (old new : PortView) (issued : Result ℕ (WindowState × IssueFault)) (o : Result T E)
    → IfErr issued (λ e. (e.0 ≡ w) × (new ≡ old)) → MatchOption (issue_said issued) (IsErr o) (λ says. IsOkAnd o (λ a. say a ≡ says)) → OnErr o (new ≡ old)
told_same T E say w old new issued (Ok a) same told = tt
told_same T E say w old new (Ok n) (Err f) same told = absurd told
told_same T E say w old new (Err e) (Err f) same told = same.1
