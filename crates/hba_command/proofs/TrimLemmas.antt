-- Entries of DATA SET MANAGEMENT that leave no disk.
use Rattle.std.proofs.Common.{◌≡◌, ◌≢◌, ◌⊎◌, ℕ, zero, suc, ◌+◌, ◌*◌, ◌/◌, ◌%◌, ◌^◌, ◌<◌, ◌≤◌, Bool, true, false, List, length, Option, None, Some, is_some, ap, refl, sym, ◌∙◌, subst, arith, inl, inr, cond, eqb, ltb, not, ◌&&◌, get_or, set}
use Rattle.std.proofs.lemmas.Bool.{cases_lt, lt-ltb, true≢false, false_from_ne_true}
use Rattle.std.proofs.lemmas.List.{get_or-set_other}
use Rattle.std.proofs.lemmas.List.Folds.{list_any_at}
use Rattle.std.proofs.lemmas.List.FromFn.{get_or-range_with_len, length-range_with_len}
use Rattle.byteorder.specs.Endian.{little_from}
use Rattle.std.specs.List.{find, range_with_len}
use Rattle.std.specs.Option.{IfSome}
use Rattle.sata_fis.specs.Places.{number}
use Rattle.hba_command.specs.Store.{entry_leaves, leaves_disk}
use Rattle.hba_command.specs.TrimRange.{IsOnDisk, first_entry, first_passed, passed_by, range_at, range_of}
use Rattle.hba_command.specs.declared.trim_range.TrimRange.{TrimRange}

-- an entry that leaves no disk has its sectors on it
entry_on_disk : (sectors entry : ℕ) → entry_leaves sectors entry ≡ false → IfSome (range_of entry) (λ r. r.lba + r.sectors ≤ sectors)
entry_on_disk sectors entry stays = by (eqb (entry / 2 ^ 48) 0) stays
  where
    by : (t : Bool) → (not t && ltb sectors (entry % 2 ^ 48 + entry / 2 ^ 48)) ≡ false
        → IfSome (cond t None (Some (record { lba = entry % 2 ^ 48; sectors = entry / 2 ^ 48 }))) (λ (r : TrimRange). r.lba + r.sectors ≤ sectors)
    by true h = tt
    by false h =
        elim (cases_lt sectors (entry % 2 ^ 48 + entry / 2 ^ 48)) [
          | inl past ↦ absurd (true≢false (sym (lt-ltb sectors (entry % 2 ^ 48 + entry / 2 ^ 48) past) ∙ h))
          | inr inside ↦ inside
        ]

-- the same of each entry of data that leave no disk
pub range_on_disk : (bytes : List ℕ) (k : ℕ) → k < length bytes / 8 → IsOnDisk bytes (range_at bytes k)
range_on_disk bytes k inside sectors stays = entry_on_disk sectors (number (8 * k) 8 bytes) (false_from_ne_true (entry_leaves sectors (number (8 * k) 8 bytes)) (λ leaves. true≢false (sym (some leaves) ∙ stays)))
  where
    some : entry_leaves sectors (number (8 * k) 8 bytes) ≡ true → leaves_disk sectors bytes ≡ true
    some leaves =
        let n = length bytes / 8 in
        let start : 0 + k ≡ k = omega arith in
        let test : ℕ → Bool = λ i. entry_leaves sectors (number (8 * i) 8 bytes) in
        list_any_at test (range_with_len 0 n) k 0 (subst (λ m. k < m) (sym (length-range_with_len 0 n)) inside) (ap test (get_or-range_with_len 0 n k 0 inside ∙ start) ∙ leaves)

-- the first number that passes a test is the first
none_until : (test : ℕ → Bool) (n start first : ℕ) → find test (range_with_len start n) ≡ Some first → (k : ℕ) → start ≤ k → k < first → test k ≡ false
none_until test zero start first found k from to = cc
none_until test (suc n) start first found k from to = by (test start) refl found (λ e later. none_until test n (start + 1) first e k later to)
  where
    by : (t : Bool) → test start ≡ t → cond t (Some start) (find test (range_with_len (start + 1) n)) ≡ Some first
        → (find test (range_with_len (start + 1) n) ≡ Some first → start + 1 ≤ k → test k ≡ false) → test k ≡ false
    by true is e rest = absurd (let same : start ≡ first = cc in omega arith)
    by false is e rest =
        elim (cases_lt start k) [
          | inl later ↦ rest e (omega arith)
          | inr here ↦ (let same : k ≡ start = omega arith in ap test same ∙ is)
        ]

none_of : (test : ℕ → Bool) (n start : ℕ) → find test (range_with_len start n) ≡ None → (k : ℕ) → start ≤ k → k < start + n → test k ≡ false
none_of test zero start found k from to = absurd (omega arith)
none_of test (suc n) start found k from to = by (test start) refl found (λ e later. none_of test n (start + 1) e k later (omega arith))
  where
    by : (t : Bool) → test start ≡ t → cond t (Some start) (find test (range_with_len (start + 1) n)) ≡ None
        → (find test (range_with_len (start + 1) n) ≡ None → start + 1 ≤ k → test k ≡ false) → test k ≡ false
    by true is e rest = absurd (cc)
    by false is e rest =
        elim (cases_lt start k) [
          | inl later ↦ rest e (omega arith)
          | inr here ↦ (let same : k ≡ start = omega arith in ap test same ∙ is)
        ]

is_none : {X : Type 0} (o : Option X) → is_some o ≡ false → o ≡ None
is_none None e = refl
is_none (Some x) e = cc

-- no entry before the first that names sectors names any, and where there is no first none does
pub none_before : (bytes : List ℕ) (first index : ℕ) → first_entry bytes ≡ Some first → index < first → range_at bytes index ≡ None
none_before bytes first index found low =
    is_none (range_at bytes index) (none_until (λ k. is_some (range_at bytes k)) (length bytes / 8) 0 first found index (omega arith) low)

pub none_left : (bytes : List ℕ) (index : ℕ) → first_entry bytes ≡ None → index < length bytes / 8 → range_at bytes index ≡ None
none_left bytes index found low =
    is_none (range_at bytes index) (none_of (λ k. is_some (range_at bytes k)) (length bytes / 8) 0 found index (omega arith) (omega arith))

-- a number is the same once a byte outside of it is another
number_same : (n i p v : ℕ) (bytes : List ℕ) → ((p < i) ⊎ (i + n ≤ p)) → little_from i n (set bytes p v) ≡ little_from i n bytes
number_same zero i p v bytes out = refl
number_same (suc n) i p v bytes out =
    ap (λ x. x + 256 * little_from (suc i) n (set bytes p v)) (get_or-set_other bytes p i v 0 (apart out))
    ∙ ap (λ y. get_or bytes i 0 + 256 * y) (number_same n (suc i) p v bytes (behind out))
  where
    apart : ((p < i) ⊎ (i + suc n ≤ p)) → i ≢ p
    apart (inl below) same = omega arith
    apart (inr above) same = omega arith

    behind : ((p < i) ⊎ (i + suc n ≤ p)) → ((p < suc i) ⊎ (suc i + n ≤ p))
    behind (inl below) = inl (omega arith)
    behind (inr above) = inr (omega arith)

-- each other entry stays
entry_stays : (bytes : List ℕ) (first index : ℕ) → index ≢ first → range_at (passed_by bytes (Some first)) index ≡ range_at bytes index
entry_stays bytes first index other =
    ap range_of (number_same 8 (8 * index) (8 * first + 7) 0 (set bytes (8 * first + 6) 0) (out 7 (omega arith)) ∙ number_same 8 (8 * index) (8 * first + 6) 0 bytes (out 6 (omega arith)))
  where
    out : (at : ℕ) → at < 8 → ((8 * first + at < 8 * index) ⊎ (8 * index + 8 ≤ 8 * first + at))
    out at low =
        elim (cases_lt first index) [
          | inl after ↦ inl (omega arith)
          | inr before ↦ elim (cases_lt index first) [
            | inl less ↦ inr (omega arith)
            | inr same ↦ absurd (other (omega arith))
          ]
        ]

pub others_stay : (bytes : List ℕ) (first index : ℕ) → first_entry bytes ≡ Some first → index ≢ first → range_at (first_passed bytes) index ≡ range_at bytes index
others_stay bytes first index found other = ap (λ o. range_at (passed_by bytes o) index) found ∙ entry_stays bytes first index other
