-- Lemmas about what a command does.
use Rattle.std.proofs.Common.{◌≡◌, ℕ, Bool, true, false, ◌||◌, cond, nat_eq, List, Option, Some, None, Result, Ok, Err, IfOk, OnErr, refl, sym, ap, ◌∙◌, subst}
use Rattle.std.specs.Option.{option_map, unwrap_or}
use Rattle.std.specs.Prelude.{nat_lt}
use Rattle.std.proofs.lemmas.Bool.{true≢false}
use Rattle.ahci_port.specs.Faults.{Answers, AnswersOr, collect_refusal, most_first}
use Rattle.ahci_port.specs.PortView.{PortView}
use Rattle.ahci_port.specs.Steps.{IsCollected, answer_to}
use Rattle.ahci_script.specs.Said.{Said}
use Rattle.ahci_script.specs.Said as says
use Rattle.port_refusal.specs.declared.refusal.Refusal.{Refusal}
use Rattle.port_refusal.specs.declared.refusal.Refusal.TheVariants as name
use Rattle.ncq_core.specs.DiskState.{most_depth, most_disk_sectors}
use Rattle.ncq_journal.specs.declared.outcome.Outcome.{Outcome}
use Rattle.ahci_replay.specs.Commands.{HasCollected, RefusedOr, outcome_said}
use Rattle.ahci_port.specs.Refusals.{of_collect}
use Rattle.ahci_replay.specs.Refusals.{disk_refusal, joined}

-- what follows for the value of an Ok
pub if_ok_from : {T E : Type 0} (r : Result T E) (P Q : T → Type 0) → IfOk r P → ((x : T) → P x → Q x) → IfOk r Q
if_ok_from (Ok x) P Q p f = f x p
if_ok_from (Err e) P Q p f = p

-- what holds anyway holds where the result is Err
pub on_err : {T E : Type 0} (r : Result T E) (P : Type 0) → P → OnErr r P
on_err (Ok x) P p = tt
on_err (Err e) P p = p

-- a call that the port carried out
pub carried_out : {F : Type 0} (T : Type 0) (x : T) (o : Option F) (show : F → Refusal) (old new : PortView) (said : Said) (Done : Type 0)
    → Answers {T = T} {E = F} (Ok x) o → Done → RefusedOr (option_map show o) old new said Done
carried_out T x None show old new said Done is done = done
carried_out T x (Some f) show old new said Done is done = cc

-- a call that the port refused
pub refused : {F : Type 0} (T : Type 0) (f : F) (o : Option F) (show : F → Refusal) (q : Refusal) (old new : PortView) (Done : Type 0)
    → Answers {T = T} {E = F} (Err f) o → q ≡ show f → new ≡ old → RefusedOr (option_map show o) old new (says.Refused q) Done
refused T f None show q old new Done is named same = cc
refused T f (Some g) show q old new Done is named same =
    let inner : f ≡ g = cc in (same, ap says.Refused (named ∙ ap show inner))

-- the same, where the refusal is the same and what is done says more
pub refused_as : (o o' : Option Refusal) (old new : PortView) (said : Said) (Done Done' : Type 0) → o' ≡ o → (Done → Done') → RefusedOr o old new said Done → RefusedOr o' old new said Done'
refused_as None o' old new said Done Done' same more did =
    subst (λ x. RefusedOr x old new said Done') (sym same) (more did)
refused_as (Some q) o' old new said Done Done' same more did =
    subst (λ x. RefusedOr x old new said Done') (sym same) did

-- a request that the port handed out is collected
pub collects : (T : Type 0) (x : T) (tag number : ℕ) (old new : PortView) (outcome : Outcome) (entry : ℕ) (bytes : List ℕ) (said : Said) → Answers {T = T} (Ok x) (collect_refusal old tag number)
    → answer_to old number ≡ Some (record { entry = entry; outcome = outcome; bytes = bytes }) → IsCollected tag old new → said ≡ outcome_said outcome entry bytes
    → RefusedOr (option_map of_collect (collect_refusal old tag number)) old new said (HasCollected tag number old new said)
collects T x tag number old new outcome entry bytes said taken is collected told =
    carried_out T x (collect_refusal old tag number) of_collect old new said (HasCollected tag number old new said) taken
    (record { reply = record { entry = entry; outcome = outcome; bytes = bytes }; is = is; collected = collected; told = told })

-- where a call of the port lacked memory, it refused nothing
pub nothing_stands_against : {F : Type 0} (T : Type 0) (f lacking : F) (o : Option F) (show : F → Option Refusal)
    → AnswersOr {T = T} {E = F} (Err f) o lacking → show f ≡ None → joined (option_map show o) ≡ None
nothing_stands_against T f lacking None show is none = refl
nothing_stands_against T f lacking (Some g) show is none = let same : g ≡ f = cc in ap show same ∙ none

-- a disk whose numbers nothing refuses
pub disk_made : (sectors depth : ℕ) (first : Option ℕ) → nat_eq sectors 0 ≡ false → nat_lt most_disk_sectors sectors ≡ false → nat_eq depth 0 ≡ false → nat_lt most_depth depth ≡ false
    → nat_lt most_first (unwrap_or first 0) ≡ false → disk_refusal sectors depth first ≡ None
disk_made sectors depth first = by (nat_eq sectors 0) (nat_lt most_disk_sectors sectors) (nat_eq depth 0) (nat_lt most_depth depth) (nat_lt most_first (unwrap_or first 0))
  where
    by : (a b d e f : Bool) → a ≡ false → b ≡ false → d ≡ false → e ≡ false → f ≡ false
        → cond (a || b) (Some name.BadSize) (cond (d || e) (Some name.BadDepth) (cond f (Some name.BadFirst) None)) ≡ None
    by false false false false false p q r s t = refl
    by true b d e f p q r s t = absurd (true≢false p)
    by false true d e f p q r s t = absurd (true≢false q)
    by false false true e f p q r s t = absurd (true≢false r)
    by false false false true f p q r s t = absurd (true≢false s)
    by false false false false true p q r s t = absurd (true≢false t)
