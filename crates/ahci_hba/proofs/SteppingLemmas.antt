-- A step that is possible is one that the port takes.
use Rattle.std.proofs.Common.{◌≡◌, ℕ, Bool, true, false, not, cond, ◌&&◌, List, [], ◌∷◌, Option, None, Some, Result, Ok, Err, is_some, set, IfErr, IsErrAnd, refl, ap, sym, subst, ◌∙◌}
use Rattle.std.proofs.lemmas.Bool.{and_parts, false≢true, true≢false}
use Rattle.ncq_journal.specs.Halted.{halted}
use Rattle.ncq_journal.specs.Phase.{phase}
use Rattle.ncq_journal.specs.Work.{Work, is_ragged, lba_of, sectors_of}
use Rattle.ncq_journal.specs.Request.{request}
use Rattle.ahci_port.specs.Faults.{Answers, is_accepted, is_issued, is_of_request, op_refusal, step_refusal, submit_refusal}
use Rattle.ahci_port.specs.PortView.{PortView}
use Rattle.ahci_port.specs.declared.fault.StepFault.{StepFault}
use Rattle.ahci_port.specs.declared.fault.StepFault.TheVariants as fault
use Rattle.ahci_port.specs.declared.fault.SubmitFault.{SubmitFault}
use Rattle.ahci_port.specs.declared.step.DeviceStep.TheVariants.{Accept, Fail, Serve}
use Rattle.hba_command.specs.declared.entry.PrdEntry.{PrdEntry}
use Rattle.hba_command.specs.declared.task.Task.{Task}
use Rattle.ahci_hba.specs.HbaView.{Fetched, HbaView}
use Rattle.ahci_hba.specs.Queueing.{asked_for, command_at, may_fetch}
use Rattle.ahci_hba.specs.Stepping.{fault_if, may_accept, may_control, may_deliver, may_execute, may_recover, may_send, may_serve, next_step, queue_step, work_at}
use Rattle.ahci_hba.specs.declared.fault.HbaFault.{HbaFault}
use Rattle.ahci_hba.specs.declared.fault.HbaFault.TheVariants.{NotReady}
use Rattle.ahci_hba.specs.declared.step.Step.{Step}
use Rattle.ahci_hba.specs.declared.step.Step.TheVariants as step

-- a call that has no reason to fail does not
pub no_fault : {T E : Type 0} (r : Result T E) (o : Option E) (e : E) → Answers r o → o ≡ None → r ≡ Err e → ⊥
no_fault (Ok x) None e h is err = cc
no_fault (Err f) None e h is err = false≢true h
no_fault r (Some f) e h is err = cc

-- while nothing has failed and the command is where it should be, there is no reason
no_reason : {E : Type 0} (h i : Bool) (x y : E) → (not h && i) ≡ true → cond h (Some x) (cond i None (Some y)) ≡ None
no_reason true i x y e = cc
no_reason false true x y e = refl
no_reason false false x y e = cc

pub waiting_is_taken : (ready sent : Bool) (port : PortView) (slot : ℕ) → (ready && (sent && (not (halted port.past) && is_issued (phase port.past slot)))) ≡ true
    → step_refusal port (Accept slot) ≡ None
waiting_is_taken ready sent port slot e =
    no_reason (halted port.past) (is_issued (phase port.past slot)) _ _
    (and_parts sent (not (halted port.past) && is_issued (phase port.past slot)) (and_parts ready (sent && (not (halted port.past) && is_issued (phase port.past slot))) e).1).1

-- the same of a list of one tag
no_reason_served : {E : Type 0} (h i : Bool) (x y z : E) → (not h && i) ≡ true → cond h (Some x) (cond (i && true) (cond false (Some z) None) (Some y)) ≡ None
no_reason_served true i x y z e = cc
no_reason_served false true x y z e = refl
no_reason_served false false x y z e = cc

pub taken_is_served : (ready sent : Bool) (port : PortView) (slot : ℕ) → (ready && (sent && (not (halted port.past) && is_accepted (phase port.past slot)))) ≡ true
    → step_refusal port (Serve (record { items = slot ∷ [] })) ≡ None
taken_is_served ready sent port slot e =
    no_reason_served (halted port.past) (is_accepted (phase port.past slot)) fault.Halted fault.NotAccepted fault.BadTags
    (and_parts sent (not (halted port.past) && is_accepted (phase port.past slot)) (and_parts ready (sent && (not (halted port.past) && is_accepted (phase port.past slot))) e).1).1

-- nothing is wrong with a command that the port takes
pub nothing_is_wrong : (port : PortView) (slot : ℕ) (work : Work) → op_refusal port slot work ≡ None
    → (is_ragged work ≡ false) × (submit_refusal port slot (lba_of work) (sectors_of work) ≡ None)
nothing_is_wrong port slot work e = by (is_ragged work) (submit_refusal port slot (lba_of work) (sectors_of work)) _ e
  where
    by : (b : Bool) (o : Option SubmitFault) (x : SubmitFault) → cond b (Some x) o ≡ None → (b ≡ false) × (o ≡ None)
    by true o x e = cc
    by false o x e = (refl, e)

-- an option that is none
pub is_none : {X : Type 0} (o : Option X) → not (is_some o) ≡ true → o ≡ None
is_none None e = refl
is_none (Some x) e = cc

-- a command that may be served was accepted
pub serves_accepted : (ready sent : Bool) (port : PortView) (slot : ℕ) → (ready && (sent && (not (halted port.past) && is_accepted (phase port.past slot)))) ≡ true
    → is_accepted (phase port.past slot) ≡ true
serves_accepted ready sent port slot e =
    (and_parts (not (halted port.past)) (is_accepted (phase port.past slot))
    (and_parts sent (not (halted port.past) && is_accepted (phase port.past slot)) (and_parts ready (sent && (not (halted port.past) && is_accepted (phase port.past slot))) e).1).1).1

-- a command that fails does so at one of its sectors
pub fails_at_its_own : {T : Type 0} (r : Result T StepFault) (x : T) (port : PortView) (slot error lba : ℕ) → Answers r (step_refusal port (Fail slot error lba)) → r ≡ Ok x
    → is_of_request (request port.past slot) lba ≡ true
fails_at_its_own {T = T} r x port slot error lba a e = by (halted port.past) (is_accepted (phase port.past slot)) (is_of_request (request port.past slot) lba) r a e
  where
    by : (h a i : Bool) (r : Result T StepFault) → Answers r (cond h (Some fault.Halted) (cond a (cond i None (Some fault.OutsideCommand)) (Some fault.NotAccepted))) → r ≡ Ok x → i ≡ true
    by h a true r s e = refl
    by true a false r s e = cc
    by false true false r s e = cc
    by false false false r s e = cc

-- and it does not fail only if the sector is another one's
pub fails_elsewhere : {T : Type 0} (r : Result T StepFault) (f : StepFault) (port : PortView) (slot error lba : ℕ) (ready sent : Bool) → Answers r (step_refusal port (Fail slot error lba))
    → r ≡ Err f → (ready && (sent && (not (halted port.past) && is_accepted (phase port.past slot)))) ≡ true → false ≡ is_of_request (request port.past slot) lba
fails_elsewhere {T = T} r f port slot error lba ready sent a e may =
    by (halted port.past) (is_accepted (phase port.past slot)) (is_of_request (request port.past slot) lba) r a e
    (and_parts sent (not (halted port.past) && is_accepted (phase port.past slot)) (and_parts ready (sent && (not (halted port.past) && is_accepted (phase port.past slot))) may).1).1
  where
    by : (h a i : Bool) (r : Result T StepFault) → Answers r (cond h (Some fault.Halted) (cond a (cond i None (Some fault.OutsideCommand)) (Some fault.NotAccepted)))
        → r ≡ Err f → (not h && a) ≡ true → false ≡ i
    by h a false r s e t = refl
    by true a true r s e t = cc
    by false false true r s e t = cc
    by false true true (Ok x) s e t = cc
    by false true true (Err g) s e t = absurd (false≢true s)

-- what is sent, the port takes
pub sent_is_taken : (ready goes : Bool) (h taken : HbaView) (slot : ℕ) (t : Task) (list : List PrdEntry) (bytes : List ℕ)
    → (ready && (goes && not (is_some (op_refusal h.port slot (work_at (command_at h slot)))))) ≡ true → command_at h slot ≡ Some (Fetched t list bytes)
    → taken ≡ record h { slots = set h.slots slot None } → op_refusal taken.port slot (asked_for t bytes) ≡ None
sent_is_taken ready goes h taken slot t list bytes may there was =
    ap (λ v. op_refusal v.port slot (asked_for t bytes)) was ∙ sym (ap (λ c. op_refusal h.port slot (work_at c)) there)
    ∙ is_none (op_refusal h.port slot (work_at (command_at h slot)))
    (and_parts goes (not (is_some (op_refusal h.port slot (work_at (command_at h slot)))))
    (and_parts ready (goes && not (is_some (op_refusal h.port slot (work_at (command_at h slot))))) may).1).1

-- what follows from a fault follows from a fact of it
pub if_err : {T E : Type 0} {P Q : E → Type 0} → (r : Result T E) → ((e : E) → P e → Q e) → IfErr r P → IfErr r Q
if_err (Ok x) f h = tt
if_err (Err e) f h = f e h

-- a step that takes no memory does not fail if it is possible
pub never_fails : {T : Type 0} (r : Result T HbaFault) (may : Bool) (o : Option Step) (same : Type 0) → may ≡ true → IfErr r (λ e. (e ≡ NotReady) × (may ≡ false) × same)
    → IfErr r (λ e. (e ≡ fault_if (is_some o)) × same)
never_fails (Ok x) may o same t h = tt
never_fails (Err e) may o same t h = absurd (true≢false (sym t ∙ h.1))

-- one that takes memory fails for want of it
pub lacks_memory : {T : Type 0} (r : Result T HbaFault) (may : Bool) (o : Option Step) (s : Step) (same : Type 0) → may ≡ true → o ≡ Some s
    → IfErr r (λ e. (e ≡ fault_if may) × same) → IfErr r (λ e. (e ≡ fault_if (is_some o)) × same)
lacks_memory (Ok x) may o s same t is h = tt
lacks_memory (Err e) may o s same t is h = (h.0 ∙ ap fault_if (t ∙ sym (ap is_some is)), h.1)

-- the same of a fault that is handed on
pub hands_on : {T : Type 0} (r : Result T HbaFault) (f : HbaFault) (may : Bool) (o : Option Step) (s : Step) (same : Type 0) → IsErrAnd r (λ e. e ≡ f) → may ≡ true → o ≡ Some s
    → f ≡ fault_if may → same → IfErr r (λ e. (e ≡ fault_if (is_some o)) × same)
hands_on (Ok x) f may o s same h t is lacks kept = tt
hands_on (Err e) f may o s same h t is lacks kept = (h ∙ lacks ∙ ap fault_if (t ∙ sym (ap is_some is)), kept)

-- the next step is possible
abbrev pub is_possible : Step → HbaView → ℕ → Bool
is_possible step.Fetch h slot = may_fetch h slot
is_possible step.Send h slot = may_send h slot
is_possible step.Accept h slot = may_accept h slot
is_possible step.Serve h slot = may_serve h slot
is_possible step.Deliver h slot = may_deliver h slot
is_possible step.Execute h slot = may_execute h slot
is_possible step.Control h slot = may_control h slot
is_possible step.Recover h slot = may_recover h slot

-- the first of some steps
first : (b : Bool) (s x : Step) (o : Option Step) (h : HbaView) (slot : ℕ) → is_possible s h slot ≡ b → (o ≡ Some x → is_possible x h slot ≡ true) → cond b (Some s) o ≡ Some x
    → is_possible x h slot ≡ true
first true s x o h slot is later e = let same : s ≡ x = cc in subst (λ y. is_possible y h slot ≡ true) same is
first false s x o h slot is later e = later e

none_later : (x : Step) (h : HbaView) (slot : ℕ) → ◌≡◌ {A = Option Step} None (Some x) → is_possible x h slot ≡ true
none_later x h slot e = cc

queue_step_is_possible : (x : Step) (h : HbaView) (slot : ℕ) → queue_step h slot ≡ Some x → is_possible x h slot ≡ true
queue_step_is_possible x h slot e =
    first (may_send h slot) step.Send x _ h slot refl
    (first (may_accept h slot) step.Accept x _ h slot refl
    (first (may_serve h slot) step.Serve x _ h slot refl (first (may_deliver h slot) step.Deliver x None h slot refl (none_later x h slot)))) e

pub next_is_possible : (x : Step) (h : HbaView) (slot : ℕ) → next_step h slot ≡ Some x → is_possible x h slot ≡ true
next_is_possible x h slot e =
    first (may_fetch h slot) step.Fetch x _ h slot refl
    (first (may_control h slot) step.Control x _ h slot refl
    (first (may_execute h slot) step.Execute x _ h slot refl
    (first (may_recover h slot) step.Recover x _ h slot refl (queue_step_is_possible x h slot)))) e
