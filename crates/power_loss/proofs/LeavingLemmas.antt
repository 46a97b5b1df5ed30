-- What an event more leaves.
use Rattle.std.proofs.Common.{◌≡◌, ◌↔◌, ℕ, IsTrue, Bool, List, ◌∷◌, subst, sym, inl, inr}
use Rattle.ncq_journal.specs.Entry.{Entry, Issue, Accept, Complete, Fail, Recover, Reissue, Collect, Unqueued, Zero}
use Rattle.ncq_journal.specs.declared.plain.Plain.TheVariants.{Identify, Flush, ReadLog}
use Rattle.power_loss.specs.Leaving.{DoneMayLeave, LeavesAfter, sector_from}

-- whether it leaves the bytes depends on whether they were left before, and not on how that is known
same : (entry : Entry) (past : List Entry) (s : ℕ) (now bytes : List ℕ) (a b : Type 0) → (a → b) → LeavesAfter entry past s now bytes a → LeavesAfter entry past s now bytes b
same (Issue t work) past s now bytes a b f h = f h
same (Accept t) past s now bytes a b f h = f h
same (Complete t) past s now bytes a b f (inl x) = inl (f x)
same (Complete t) past s now bytes a b f (inr y) = inr y
same (Fail t error lba) past s now bytes a b f h = f h
same (Recover t) past s now bytes a b f h = f h
same (Reissue t) past s now bytes a b f h = f h
same (Collect t) past s now bytes a b f h = f h
same (Unqueued Identify) past s now bytes a b f h = f h
same (Unqueued Flush) past s now bytes a b f h = h
same (Unqueued ReadLog) past s now bytes a b f h = f h
same (Zero lba sectors) past s now bytes a b f (inl x) = inl (f x)
same (Zero lba sectors) past s now bytes a b f (inr y) = inr y

pub leaves_next : (was : List ℕ) (entry : Entry) (past next : List Entry) (s : ℕ) (now bytes : List ℕ) (may might : Bool) → next ≡ entry ∷ past → now ≡ sector_from was past s
    → (IsTrue may ↔ DoneMayLeave was past s bytes) → (IsTrue might ↔ LeavesAfter entry past s now bytes (IsTrue may)) → (IsTrue might ↔ DoneMayLeave was next s bytes)
leaves_next was entry past next s now bytes may might e n k m =
    subst (λ x. IsTrue might ↔ DoneMayLeave was x s bytes) (sym e) (subst (λ x. IsTrue might ↔ LeavesAfter entry past s x bytes (DoneMayLeave was past s bytes)) n
    ((λ h. same entry past s now bytes (IsTrue may) (DoneMayLeave was past s bytes) k.0 (m.0 h)), (λ h. m.1 (same entry past s now bytes (DoneMayLeave was past s bytes) (IsTrue may) k.1 h))))
