-- Memory is allocated for a command that moves data.
use Rattle.std.proofs.Common.{◌≡◌, ◌≢◌, ◌==◌, ℕ, zero, suc, true, not, Option, Some, Result, Ok, Err, OnErr, refl, ap, subst, sym}
use Rattle.std.proofs.Math.Dec.{eqb-suc-zero}
use Rattle.sata_fis.specs.Fields.{H2dFields}
use Rattle.hba_command.specs.Task.{task_of}
use Rattle.hba_command.specs.declared.task.Task.{Task}
use Rattle.hba_memory.specs.Reading.{moved_by, moves_data}

is_some_data : (n : ℕ) → n ≢ 0 → not (n == 0) ≡ true
is_some_data zero h = absurd (h refl)
is_some_data (suc n) h = ap not (eqb-suc-zero n)

pub lacks_for_data : {T E : Type 0} (r : Result T E) (o : Option H2dFields) (f : H2dFields) (t : Task) → o ≡ Some f → t ≡ task_of f → OnErr r (moved_by t ≢ 0)
    → OnErr r (moves_data o ≡ true)
lacks_for_data (Ok x) o f t is asks h = tt
lacks_for_data (Err e) o f t is asks h =
    subst (λ x. moves_data x ≡ true) (sym is) (subst (λ x. not (moved_by x == 0) ≡ true) asks (is_some_data (moved_by t) h))
