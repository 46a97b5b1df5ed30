-- How a step is answered.
use Rattle.std.proofs.Common.{◌≡◌, ℕ, ◌<◌, Bool, true, false, nat_lt, if◌then◌else◌, Option, None, Some, IsSomeAnd, is_some, refl, sym, subst, inl, inr}
use Rattle.std.proofs.lemmas.Bool.{ltb-true}
use Rattle.hba_regs.specs.HbaState.{slot_of}
use Rattle.ncq_journal.specs.History.{History}
use Rattle.ahci_ffi.proofs.ArgumentLemmas.{with_small}
use Rattle.ahci_ffi.specs.Refusals.{with_tag}
use Rattle.ahci_ffi.specs.Told.{ToldOr}
use Rattle.ahci_ffi.specs.declared.status.Status.{Status}
use Rattle.ahci_ffi.specs.declared.status.Status.TheVariants as status
use Rattle.port_refusal.specs.declared.refusal.Refusal.TheVariants as refusal
use Rattle.ahci_hba.specs.HbaView.{HbaView}
use Rattle.ahci_hba.specs.Stepping.{IsTaken, fault_if, next_step}
use Rattle.ahci_hba.specs.declared.fault.HbaFault.TheVariants as fault
use Rattle.ahci_hba.specs.declared.step.Step.{Step}
use Rattle.hba_ffi.specs.Calls.{AnswersStep, HasTaken, entries_in, unless_possible}

-- the slot of a number is that number, below 32
pub slot_is : (number slot : ℕ) → slot_of number ≡ Some slot → (slot < 32) × (slot ≡ number)
slot_is number slot e = by (nat_lt number 32) refl e
  where
    by : (b : Bool) → nat_lt number 32 ≡ b → (if b then Some number else None) ≡ Some slot → (slot < 32) × (slot ≡ number)
    by true small is = let same : number ≡ slot = cc in (subst (λ n. n < 32) same (ltb-true number 32 small), sym same)
    by false small is = cc

-- of a slot that there is, the tag is no reason
below : (slot : ℕ) (answer : Status) (reason : Option Status) (done same : Type 0) → slot < 32 → ToldOr answer reason done same → ToldOr answer (with_tag slot reason) done same
below slot answer reason done same is told = subst (λ r. ToldOr answer r done same) (sym (with_small slot reason is)) told

-- the step was taken
pub takes : (slot : ℕ) (old new : HbaView) (before after : ℕ) (journal : Option History) → slot < 32 → IsSomeAnd (next_step old slot) (λ s. IsTaken s slot old new journal)
    → after ≡ entries_in journal → AnswersStep slot status.Done old new before after
takes slot old new before after journal is taken counted = below slot status.Done (unless_possible (next_step old slot)) _ _ is (by (next_step old slot) taken)
  where
    by : (o : Option Step) → IsSomeAnd o (λ s. IsTaken s slot old new journal)
        → ToldOr status.Done (unless_possible o) (IsSomeAnd o (HasTaken slot old new after)) ((new ≡ old) × (after ≡ before))
    by None t = absurd t
    by (Some s) t = inl (refl, record { journal = journal; taken = t; counted = counted })

-- there is none
pub is_not_ready : (slot : ℕ) (old new : HbaView) (before : ℕ) → slot < 32 → fault.NotReady ≡ fault_if (is_some (next_step old slot)) → new ≡ old
    → AnswersStep slot status.NotReady old new before before
is_not_ready slot old new before is none same = below slot status.NotReady (unless_possible (next_step old slot)) _ _ is (by (next_step old slot) none)
  where
    by : (o : Option Step) → fault.NotReady ≡ fault_if (is_some o)
        → ToldOr status.NotReady (unless_possible o) (IsSomeAnd o (HasTaken slot old new before)) ((new ≡ old) × (before ≡ before))
    by None e = (refl, (same, refl))
    by (Some s) e = cc

-- an allocation failed
pub lacks : (slot : ℕ) (old new : HbaView) (before : ℕ) → slot < 32 → fault.OutOfMemory ≡ fault_if (is_some (next_step old slot)) → new ≡ old
    → AnswersStep slot (status.Refused refusal.OutOfMemory) old new before before
lacks slot old new before is some same = below slot (status.Refused refusal.OutOfMemory) (unless_possible (next_step old slot)) _ _ is (by (next_step old slot) some)
  where
    by : (o : Option Step) → fault.OutOfMemory ≡ fault_if (is_some o)
        → ToldOr (status.Refused refusal.OutOfMemory) (unless_possible o) (IsSomeAnd o (HasTaken slot old new before)) ((new ≡ old) × (before ≡ before))
    by None e = cc
    by (Some s) e = inr (refl, (same, refl))
