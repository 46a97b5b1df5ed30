-- How a call over a place follows from the call on its controller.
use Rattle.std.proofs.Common.{◌≡◌, ◌∙◌, ℕ, Option, None, Some, Result, Ok, Err, true, false, is_some, ap, refl, sym, subst, inl, inr}
use Rattle.std.specs.Prelude.{Box}
use Rattle.std.proofs.lemmas.Bool.{false≢true, true≢false}
use Rattle.ahci_port.specs.Headline.{Headline}
use Rattle.ahci_ffi.specs.Making.{Makes}
use Rattle.ahci_ffi.specs.Status.{code_of}
use Rattle.ahci_ffi.specs.declared.status.Status.{Status}
use Rattle.ahci_ffi.specs.declared.status.Status.TheVariants as status
use Rattle.ahci_hba.specs.HbaView.{HbaView}
use Rattle.hba_ffi.specs.Over.{Changes, Fills, IsFilled, Reads, ReadsHeld}

-- a place without a controller
pub none_changes : (old new : Option HbaView) (same : Type 0) (holds : Status → HbaView → HbaView → Type 0) → old ≡ None → new ≡ None → same
    → Changes (code_of status.NoPort) old new same holds
none_changes old new same holds is left s = subst (λ o. Changes (code_of status.NoPort) o new same holds) (sym is) (refl, left, s)

pub none_reads : (old new : Option HbaView) (same : Type 0) (holds : Status → HbaView → Type 0) → old ≡ None → new ≡ None → same
    → Reads (code_of status.NoPort) old new same holds
none_reads old new same holds is left s = (left ∙ sym is, subst (λ o. ReadsHeld (code_of status.NoPort) o same holds) (sym is) (refl, s))

-- a controller that was taken out, and put back as the call left it
pub some_changes : (old new : Option HbaView) (before after : HbaView) (answer : Status) (number : ℕ) (same : Type 0) (holds : Status → HbaView → HbaView → Type 0)
    → old ≡ Some before → new ≡ Some after → Headline after.port → number ≡ code_of answer → holds answer before after → Changes number old new same holds
some_changes old new before after answer number same holds was is h code so =
    subst (λ o. Changes number o new same holds) (sym was)
    (subst (λ o. Changes number (Some before) o same holds) (sym is) (h, record { answer = answer; is = code; so = so }))

pub some_reads : (old new : Option HbaView) (h : HbaView) (answer : Status) (number : ℕ) (same : Type 0) (holds : Status → HbaView → Type 0)
    → old ≡ Some h → new ≡ Some h → Headline h.port → number ≡ code_of answer → holds answer h → Reads number old new same holds
some_reads old new h answer number same holds was is kept code so =
    (is ∙ sym was, subst (λ o. ReadsHeld number o same holds) (sym was) (kept, record { answer = answer; is = code; so = so }))

-- an empty place is filled with what was made
pub filled : {A : Type 0} (number : ℕ) (old new : Option HbaView) (reason : Option Status) (result : Result (Box HbaView A) Status) (made : HbaView)
    → is_some old ≡ false → Makes reason result (λ box. box.value ≡ made) → IsFilled number old new result → Fills number old new reason made
filled number (Some h) new reason result made is makes fills = absurd (true≢false is)
filled number None new (Some reason) (Ok box) made is makes fills = absurd (cc)
filled number None new (Some reason) (Err other) made is makes fills = let same : other ≡ reason = cc in (fills.0 ∙ ap code_of same, fills.1)
filled number None new None (Ok box) made is makes fills =
    inl (fills.0, fills.1 ∙ ap Some makes, subst (λ v. Headline v.port) makes fills.2)
filled number None new None (Err other) made is makes fills = inr (fills.0 ∙ ap code_of makes, fills.1)

-- a place that has a controller is reported
pub full : (old new : Option HbaView) (reason : Option Status) (made : HbaView) → is_some old ≡ true → new ≡ old → Fills (code_of status.PortThere) old new reason made
full None new reason made is same = absurd (false≢true is)
full (Some h) new reason made is same = (refl, same)
