-- How a call over a place follows from the call on its port.
use Rattle.std.proofs.Common.{◌≡◌, ◌∙◌, ℕ, Option, None, Some, Result, Ok, Err, true, is_some, ap, refl, sym, subst, inl, inr}
use Rattle.std.specs.Prelude.{Box}
use Rattle.std.proofs.lemmas.Bool.{false≢true}
use Rattle.ahci_port.specs.Headline.{Headline}
use Rattle.ahci_port.specs.PortView.{PortView}
use Rattle.ahci_port.specs.Writes.{nothing_pending}
use Rattle.ahci_port.specs.declared.pending.Pending.{Pending}
use Rattle.ahci_ffi.specs.Making.{Makes}
use Rattle.ahci_ffi.specs.Over.{Changes, ChangesPort, Fills, FillsPlace, IsFilled, Reads, ReadsPort, Supersedes, Writes, left_pending}
use Rattle.ahci_ffi.specs.PlaceView.{PlaceView}
use Rattle.ahci_ffi.specs.Status.{code_of}
use Rattle.ahci_ffi.specs.declared.status.Status.{Status}
use Rattle.ahci_ffi.specs.declared.status.Status.TheVariants as status

-- a place from which nothing was taken
untouched : (old : PlaceView) → old.port ≡ None → record old { port = None } ≡ old
untouched old is = ap (λ o. record old { port = o }) (sym is)

-- a place without a port
pub none_changes : (old new : PlaceView) (same : Type 0) (holds : Status → PortView → PortView → Type 0) → old.port ≡ None → new ≡ record old { port = None } → same
    → Changes (code_of status.NoPort) old new same holds
none_changes old new same holds is left s =
    (ap (λ p. p.pending) left, subst (λ o. ChangesPort (code_of status.NoPort) o new.port same holds) (sym is) (refl, ap (λ p. p.port) left, s))

pub none_reads : (old new : PlaceView) (same : Type 0) (holds : Status → PortView → Type 0) → old.port ≡ None → new ≡ record old { port = None } → same
    → Reads (code_of status.NoPort) old new same holds
none_reads old new same holds is left s =
    (left ∙ untouched old is, subst (λ o. ReadsPort (code_of status.NoPort) o same holds) (sym is) (refl, s))

pub none_writes : (old new : PlaceView) (same : Type 0) (holds : Status → PortView → PortView → Pending → Pending → Type 0) → old.port ≡ None
    → new ≡ record old { port = None } → same → Writes (code_of status.NoPort) old new same holds
none_writes old new same holds is left s =
    subst (λ o. ChangesPort (code_of status.NoPort) o new.port ((new.pending ≡ old.pending) × same) (λ answer before after. holds answer before after old.pending new.pending))
    (sym is) (refl, ap (λ p. p.port) left, (ap (λ p. p.pending) left, s))

-- a port that was taken out, and put back as the call left it
changed : (number : ℕ) (old new : Option PortView) (before after : PortView) (answer : Status) (same : Type 0) (holds : Status → PortView → PortView → Type 0)
    → old ≡ Some before → new ≡ Some after → Headline after → number ≡ code_of answer → holds answer before after → ChangesPort number old new same holds
changed number old new before after answer same holds was is h code so =
    subst (λ o. ChangesPort number o new same holds) (sym was)
    (subst (λ o. ChangesPort number (Some before) o same holds) (sym is) (h, record { answer = answer; is = code; so = so }))

pub some_changes : (old taken new : PlaceView) (before after : PortView) (answer : Status) (number : ℕ) (same : Type 0) (holds : Status → PortView → PortView → Type 0)
    → old.port ≡ Some before → taken ≡ record old { port = None } → new ≡ record taken { port = Some after } → Headline after → number ≡ code_of answer
    → holds answer before after → Changes number old new same holds
some_changes old taken new before after answer number same holds was left back h code so =
    (ap (λ p. p.pending) back ∙ ap (λ p. p.pending) left, changed number old.port new.port before after answer same holds was (ap (λ p. p.port) back) h code so)

pub some_writes : (old new : PlaceView) (before after : PortView) (pending : Pending) (answer : Status) (number : ℕ) (same : Type 0)
    (holds : Status → PortView → PortView → Pending → Pending → Type 0) → old.port ≡ Some before → new ≡ record { port = Some after; pending = pending }
    → Headline after → number ≡ code_of answer → holds answer before after old.pending pending → Writes number old new same holds
some_writes old new before after pending answer number same holds was back h code so =
    changed number old.port new.port before after answer ((new.pending ≡ old.pending) × same) (λ said was is. holds said was is old.pending new.pending) was
    (ap (λ p. p.port) back) h code (subst (λ p. holds answer before after old.pending p) (sym (ap (λ p. p.pending) back)) so)

-- the same of a call that takes the place of register writes
pub none_supersedes : (old new : PlaceView) (same : Type 0) (holds : Status → PortView → PortView → Type 0) → old.port ≡ None
    → new ≡ record old { port = None } → same → Supersedes (code_of status.NoPort) old new same holds
none_supersedes old new same holds is left s =
    none_writes old new same (λ answer before after pending done. holds answer before after × (done ≡ left_pending answer pending)) is left s

pub some_supersedes : (old taken new : PlaceView) (before after : PortView) (answer : Status) (number : ℕ) (same : Type 0)
    (holds : Status → PortView → PortView → Type 0) → old.port ≡ Some before → taken ≡ record old { port = None }
    → new ≡ record { port = Some after; pending = left_pending answer taken.pending } → Headline after → number ≡ code_of answer
    → holds answer before after → Supersedes number old new same holds
some_supersedes old taken new before after answer number same holds was left back h code so =
    some_writes old new before after (left_pending answer taken.pending) answer number same
    (λ said was is pending done. holds said was is × (done ≡ left_pending said pending)) was back h code (so, ap (λ p. left_pending answer p.pending) left)

pub some_reads : (old taken new : PlaceView) (port : PortView) (answer : Status) (number : ℕ) (same : Type 0) (holds : Status → PortView → Type 0)
    → old.port ≡ Some port → taken ≡ record old { port = None } → new ≡ record taken { port = Some port } → Headline port → number ≡ code_of answer
    → holds answer port → Reads number old new same holds
some_reads old taken new port answer number same holds was left back h code so = (
  back ∙ ap (λ (p : PlaceView). record p { port = Some port }) left ∙ ap (λ o. record old { port = o }) (sym was),
  subst (λ o. ReadsPort number o same holds) (sym was) (h, record { answer = answer; is = code; so = so }),
)

abbrev fresh : PortView → PlaceView
fresh port = record { port = Some port; pending = nothing_pending }

-- an empty place is filled with what was made
pub filled : {A : Type 0} (number : ℕ) (old new : PlaceView) (reason : Option Status) (result : Result (Box PortView A) Status) (made : PortView)
    → old.port ≡ None → Makes reason result (λ box. box.value ≡ made) → IsFilled number old new result → Fills number old new reason made
filled {A = A} number old new reason result made is makes fills = subst (λ o. FillsPlace o number old new reason made) (sym is) (by reason result makes fills)
  where
    by : (reason : Option Status) (result : Result (Box PortView A) Status) → Makes reason result (λ box. box.value ≡ made) → IsFilled number old new result → FillsPlace None number old new reason made
    by (Some reason) (Ok box) makes fills = absurd (cc)
    by (Some reason) (Err other) makes fills = let same : other ≡ reason = cc in (fills.0 ∙ ap code_of same, fills.1)
    by None (Ok box) makes fills = inl (fills.0, fills.1 ∙ ap fresh makes, subst Headline makes fills.2)
    by None (Err other) makes fills = inr (fills.0 ∙ ap code_of makes, fills.1)

-- a place that has a port is reported
pub full : (old new : PlaceView) (reason : Option Status) (made : PortView) → is_some old.port ≡ true → new ≡ old → Fills (code_of status.PortThere) old new reason made
full old new reason made is same = by old.port is
  where
    by : (o : Option PortView) → is_some o ≡ true → FillsPlace o (code_of status.PortThere) old new reason made
    by None is = absurd (false≢true is)
    by (Some port) is = (refl, same)
