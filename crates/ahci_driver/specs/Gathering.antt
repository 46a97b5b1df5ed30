-- What the workers of a run bring back, by how each has ended.
use Rattle.std.specs.Prelude.{◌≡◌, ℕ, ◌<◌, List, [], length, Option, None, Some, Result, Ok, Err, IfOk, IsOk, OnOk, IsSomeAnd, All, slice_get}
use Rattle.std.specs.declared.vec.Vec.{Vec}
use Rattle.std.specs.declared.vec.IntoIter.{IntoIter}
use Rattle.std.specs.Vec.Iter.{into_iter_items}
use Rattle.ahci_driver.specs.Sharing.{OfEach, turns}
use Rattle.ahci_driver.specs.declared.receipt.Receipt.{Receipt}
use Rattle.ahci_driver.specs.declared.worker.Stop.{Stop}

-- the receipts of a worker, in the order of its jobs; none where it has stopped
abbrev pub receipts_in : {A : _} → Result (Vec (Receipt A) A) Stop → List (Receipt A)
receipts_in (Ok receipts) = receipts.items
receipts_in (Err stop) = []

-- those that are still to come
abbrev pub left_in : {A : _} → Option (IntoIter (Receipt A) A) → List (Receipt A)
left_in None = []
left_in (Some pile) = into_iter_items pile

-- a worker has one receipt for each of its jobs, the first of which is job i; or it has stopped
abbrev pub HasDoneAll : {A : _} → (jobs workers i : ℕ) → Result (Vec (Receipt A) A) Stop → Type 0
HasDoneAll jobs workers i end = IfOk end (λ receipts. length receipts.items ≡ turns jobs workers i)

-- there are so many workers, and this holds of each
abbrev pub HaveEnded : {A : _} → (jobs workers : ℕ) → List (Result (Vec (Receipt A) A) Stop) → Type 0
HaveEnded jobs workers ends = (length ends ≡ workers) × ((i : ℕ) → i < workers → IsSomeAnd (slice_get ends i) (HasDoneAll jobs workers i))

-- none of them has stopped
abbrev pub AllWell : {T : Type 0} → List (Result T Stop) → Type 0
AllWell ends = All (λ end. IsOk end) ends

-- this holds of each job of so many workers that have not stopped
abbrev pub OfAllDone : {A : _} → (jobs workers : ℕ) → (ℕ → Type 0) → List (Result (Vec (Receipt A) A) Stop) → Type 0
OfAllDone jobs workers P ends = (i : ℕ) → i < workers → IsSomeAnd (slice_get ends i) (λ end. OnOk end (OfEach jobs workers i P))
