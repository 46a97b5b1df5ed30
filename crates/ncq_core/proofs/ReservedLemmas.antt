-- Which sectors are reserved, as a store says and as a disk lists it.
use Rattle.std.proofs.Common.{◌≡◌, ℕ, ◌+◌, ◌<◌, ◌≤◌, Bool, true, false, not, ◌&&◌, ◌||◌, List, Option, None, Some, sym, subst, refl, ◌∙◌, arith, inl, inr, map}
use Rattle.std.specs.Option.{IfSome}
use Rattle.std.proofs.lemmas.Bool.{cases_lt}
use Rattle.std.proofs.lemmas.Option.{same_Some}
use Rattle.std.proofs.lemmas.List.{get_or_past}
use Rattle.std.proofs.lemmas.List.FromFn.{get_or-map-range_with_len, length-map-range_with_len}
use Rattle.std.specs.List.{range_with_len}
use Rattle.sata_fis.specs.Fields.{QueuedFields}
use Rattle.sector_store.specs.Reserved.{AreReserved, StayReserved}
use Rattle.ncq_core.specs.DiskState.{is_reserved_in, reserved_of}
use Rattle.ncq_core.specs.Serving.{HasMemory, HasRoom}

reserved_at : (f : ℕ → Bool) (n s : ℕ) → s < n → is_reserved_in (reserved_of f n) s ≡ f s
unfolding reserved_of
reserved_at f n s low = get_or-map-range_with_len f 0 n s s false low (omega arith)

reserved_past : (f : ℕ → Bool) (n s : ℕ) → n ≤ s → is_reserved_in (reserved_of f n) s ≡ false
unfolding reserved_of
reserved_past f n s past = get_or_past (map f (range_with_len 0 n)) s false (omega (arith, length-map-range_with_len f 0 n))

-- a sector that is listed is reserved
unlisted : (f : ℕ → Bool) (n s : ℕ) → is_reserved_in (reserved_of f n) s ≡ true → f s ≡ true
unlisted f n s is = elim (cases_lt s n) [
  | inl low ↦ sym (reserved_at f n s low) ∙ is
  | inr past ↦ let none : false ≡ true = sym (reserved_past f n s past) ∙ is in absurd (cc)
]

-- the sectors that a store has reserved are listed
pub listed_reserved : (f : ℕ → Bool) (n lba count : ℕ) → lba + count ≤ n → AreReserved f lba count → AreReserved (is_reserved_in (reserved_of f n)) lba count
listed_reserved f n lba count fits all s from below = reserved_at f n s (omega arith) ∙ all s from below

-- what stays reserved stays listed
pub listed_stay : (f g : ℕ → Bool) (n m : ℕ) → m ≡ n → StayReserved f g → StayReserved (is_reserved_in (reserved_of f n)) (is_reserved_in (reserved_of g m))
listed_stay f g n m same stay s is = elim (cases_lt s n) [
  | inl low ↦ reserved_at g m s (omega arith) ∙ stay s (unlisted f n s is)
  | inr past ↦ let none : false ≡ true = sym (reserved_past f n s past) ∙ is in absurd (cc)
]

-- what is reserved stays so
pub all_reserved : (f g : ℕ → Bool) (lba count : ℕ) → StayReserved f g → AreReserved f lba count → AreReserved g lba count
all_reserved f g lba count stay all s from below = stay s (all s from below)

-- a store has the memory that a command needs, if it never grows or its sectors are listed
pub may_move : (can_grow grows : Bool) (f : ℕ → Bool) (n : ℕ) (q : QueuedFields) → ((s : ℕ) → (grows || f s) ≡ true) → (can_grow || not grows) ≡ true → q.lba + q.sectors ≤ n → HasMemory (can_grow && grows) n (reserved_of f n) q
    → q.write ≡ true → AreReserved f q.lba q.sectors
may_move can_grow false f n q none can fits has write = λ s from below. none s
may_move false true f n q none can fits has write = absurd (cc)
may_move true true f n q none can fits has write = λ s from below. unlisted f n s (subst (λ b. HasRoom n (reserved_of f n) b q.lba q.sectors) write has fits s from below)

-- the memory is there for the command at a tag
pub memory_at : (grows : Bool) (n : ℕ) (reserved : List Bool) (o : Option QueuedFields) (q : QueuedFields) → o ≡ Some q → HasRoom n reserved q.write q.lba q.sectors → IfSome o (HasMemory grows n reserved)
memory_at grows n reserved None q is room = absurd (cc)
memory_at false n reserved (Some p) q is room = tt
memory_at true n reserved (Some p) q is room = subst (λ (x : QueuedFields). HasRoom n reserved x.write x.lba x.sectors) (sym (same_Some p q is)) room
