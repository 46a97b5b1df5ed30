-- Where all workers have ended well there is one receipt for each job.
use Rattle.std.proofs.Common.{◌≡◌, ℕ, ◌/◌, ◌%◌, ◌<◌, ◌≤◌, List, [], ◌∷◌, length, map, get_or, suc, zero, refl, ap, sym, subst, ◌∙◌, Option, None, Some, IsSomeAnd, Result, Ok, Err, arith, zero-add}
use Rattle.std.specs.List.{cons_option, filter_map, range_with_len, slice_get}
use Rattle.std.specs.Option.{option_and_then, option_map}
use Rattle.std.specs.Prelude.{IsOk, IsSome}
use Rattle.std.specs.declared.vec.Vec.{Vec}
use Rattle.std.proofs.lemmas.Bool.{true≢false}
use Rattle.std.proofs.lemmas.List.FromFn.{get_or-range_with_len, length-range_with_len}
use Rattle.std.proofs.lemmas.Option.{get_or_from_slice_get, slice_get-get_or, slice_get-map, slice_get_within}
use Rattle.ahci_driver.specs.Gathering.{AllWell, HasDoneAll, HaveEnded, receipts_in}
use Rattle.ahci_driver.specs.Sharing.{in_turn, of_job, turns}
use Rattle.ahci_driver.specs.declared.receipt.Receipt.{Receipt}
use Rattle.ahci_driver.specs.declared.worker.Stop.{Stop}
use Rattle.ahci_driver.specs.declared.worker.Stop.TheVariants.{OutOfMemory}
use Rattle.ahci_driver.proofs.SharingLemmas.{turn_of_job}

one_longer : {T : Type 0} (o : Option T) (xs : List T) → IsSome o → length (cons_option o xs) ≡ suc (length xs)
one_longer None xs s = absurd (true≢false (sym s))
one_longer (Some x) xs s = refl

-- a list of which each element has something
kept : {X T : Type 0} (f : X → Option T) (xs : List X) → ((i : ℕ) (x : X) → slice_get xs i ≡ Some x → IsSome (f x)) → length (filter_map f xs) ≡ length xs
kept f [] each = refl
kept f (x ∷ xs) each = one_longer (f x) (filter_map f xs) (each 0 x refl) ∙ ap suc (kept f xs (λ i y e. each (suc i) y e))

within : {T : Type 0} (xs : List T) (i : ℕ) → i < length xs → IsSome (slice_get xs i)
within [] i low = absurd (omega arith)
within (x ∷ xs) zero low = refl
within (x ∷ xs) (suc i) low = within xs i (let b : suc i < suc (length xs) = low in omega arith)

of_well : {A : _} (end : Result (Vec (Receipt A) A) Stop) (n w i k : ℕ) → HasDoneAll n w i end → IsOk end → k < turns n w i → IsSome (slice_get (receipts_in end) k)
of_well (Ok receipts) n w i k done well low = within receipts.items k (subst (λ m. k < m) (sym done) low)
of_well (Err stop) n w i k done well low = absurd (true≢false (sym well))

has_receipt : {A : _} (ends : List (Result (Vec (Receipt A) A) Stop)) (w n job : ℕ) → 1 ≤ w → HaveEnded n w ends → AllWell ends → job < n
    → IsSome (of_job (map receipts_in ends) w job)
has_receipt {A} ends w n job some done well low =
    subst (λ o. IsSome (option_and_then (λ pile. slice_get pile (job / w)) o)) (sym (slice_get-map receipts_in ends (job % w) ∙ ap (option_map receipts_in) read))
    (of_well end n w (job % w) (job / w) (subst (λ o. IsSomeAnd o (HasDoneAll n w (job % w))) read (done.1 (job % w) (omega arith))) (well (job % w) stopped low_end)
    (turn_of_job n w job some low))
  where
    stopped : Result (Vec (Receipt A) A) Stop
    stopped = Err OutOfMemory

    end : Result (Vec (Receipt A) A) Stop
    end = get_or ends (job % w) stopped

    low_end : job % w < length ends
    low_end = let n = done.0 in omega arith

    read : slice_get ends (job % w) ≡ Some end
    read = slice_get-get_or ends (job % w) stopped low_end

-- as many receipts as jobs
pub one_for_each : {A : _} (ends : List (Result (Vec (Receipt A) A) Stop)) (w n : ℕ) → 1 ≤ w → HaveEnded n w ends → AllWell ends
    → length (in_turn (map receipts_in ends) w n) ≡ n
one_for_each ends w n some done well =
    kept (of_job (map receipts_in ends) w) (range_with_len 0 n)
    (λ i x e.
    let low : i < length (range_with_len 0 n) = slice_get_within (range_with_len 0 n) i x e in
    let len = length-range_with_len 0 n in
    let below : i < n = omega arith in
    let is : i ≡ x = sym (zero-add i) ∙ sym (get_or-range_with_len 0 n i x below) ∙ get_or_from_slice_get (range_with_len 0 n) i x x e in
    subst (λ job. IsSome (of_job (map receipts_in ends) w job)) is (has_receipt ends w n i some done well below))
    ∙ length-range_with_len 0 n
