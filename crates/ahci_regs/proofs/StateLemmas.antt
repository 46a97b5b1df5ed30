-- Lemmas on lawful states of a port's registers: what each set of slots and of interrupts keeps.
use Rattle.std.proofs.Common.{◌≡◌, ℕ, ◌^◌, ◌<◌, ◌≤◌, Bool, true, false, not, ◌&&◌, ◌||◌, if◌then◌else◌, List, length, sym, ◌∙◌, refl, ap, ⊎_elim, subst, bit_and, arith}
use Rattle.std.proofs.lemmas.Bool.{cases_eq, cases_lt}
use Rattle.std.proofs.lemmas.Nat.{or_of_8, and_le_l}
use Rattle.word_bits.specs.Places.{bits, has_place, no_places, without_place, union, intersection, minus, only_below}
use Rattle.word_bits.proofs.PlacesLemmas.{length-no_places, length-without_place, length-union, length-intersection, length-minus, length-only_below, has_place-no_places, has_place-without_same, has_place-without_other, has_place-union, has_place-intersection, has_place-minus, has_place-only_below, has_place-only_below_past, same_sets, minus-none, without_place-none, and_true, and_false}
use Rattle.word_bits.proofs.BitsLemmas.{length-bits, bits_and, bits_zero}
use Rattle.ahci_regs.specs.PortState.{PortState, IsLawful, IsSlots, IsInterrupts, implemented, first_state}
use Rattle.ahci_regs.specs.Writing.{remaining}
use Rattle.ahci_regs.specs.Receiving.{raised, ended, is_done, status_after_bits, dhrs, pss, sdbs, tfes}

-- ---- sets of slots

slots-from : (d : ℕ) (s : List Bool) → length s ≡ 32 → ((i : ℕ) → d ≤ i → has_place s i ≡ false) → IsSlots d s
slots-from d s l above = record {
  whole = l;
  within = same_sets (only_below d s) s (length-only_below d s)
      (λ i h. ⊎_elim (λ b. has_place-only_below d s i b) (λ b. has_place-only_below_past d s i b ∙ sym (above i b)) (cases_lt i d));
}

pub slots_above : (d : ℕ) (s : List Bool) → IsSlots d s → (i : ℕ) → d ≤ i → has_place s i ≡ false
slots_above d s h i b = ap (λ t. has_place t i) (sym h.within) ∙ has_place-only_below_past d s i b

pub slots-none : (d : ℕ) → IsSlots d no_places
slots-none d = slots-from d no_places length-no_places (λ i b. has_place-no_places i)

pub slots-minus : (d : ℕ) (s t : List Bool) → IsSlots d s → IsSlots d (minus s t)
slots-minus d s t h =
    slots-from d (minus s t) (length-minus s t ∙ h.whole) (λ i b. has_place-minus s t i ∙ ap (λ x. x && not (has_place t i)) (slots_above d s h i b))

pub slots-union : (d : ℕ) (s v : List Bool) → length v ≡ 32 → IsSlots d s → IsSlots d (union s (only_below d v))
slots-union d s v l h =
    slots-from d (union s (only_below d v)) (length-union s (only_below d v) (h.whole ∙ sym (length-only_below d v ∙ l)) ∙ h.whole)
    (λ i b. has_place-union s (only_below d v) i ∙ ap (λ x. x || has_place (only_below d v) i) (slots_above d s h i b) ∙ has_place-only_below_past d v i b)

slots-without : (d : ℕ) (s : List Bool) (t : ℕ) → IsSlots d s → IsSlots d (without_place s t)
slots-without d s t h =
    slots-from d (without_place s t) (length-without_place s t ∙ h.whole)
    (λ i b. ⊎_elim (λ e. rw e (has_place-without_same s t)) (λ e. has_place-without_other s t i e ∙ slots_above d s h i b) (cases_eq i t))

pub slots-ended : (d status tag : ℕ) (s : List Bool) → IsSlots d s → IsSlots d (ended status tag s)
slots-ended d status tag s h =
    elim (is_done status) as (λ b. IsSlots d (if b then without_place s tag else s)) [ true ↦ slots-without d s tag h | false ↦ h ]

-- what is empty stays so

pub minus_of_none : (s t : List Bool) → s ≡ no_places → minus s t ≡ no_places
minus_of_none s t e = ap (λ x. minus x t) e ∙ minus-none t

pub ended_of_none : (status tag : ℕ) (s : List Bool) → s ≡ no_places → ended status tag s ≡ no_places
ended_of_none status tag s e =
    ap (ended status tag) e ∙ elim (is_done status) as (λ b. (if b then without_place no_places tag else no_places) ≡ no_places) [ true ↦ without_place-none tag | false ↦ refl ]

-- ---- sets of interrupts

interrupts-from : (s : List Bool) → length s ≡ 32 → ((i : ℕ) → has_place implemented i ≡ false → has_place s i ≡ false) → IsInterrupts s
interrupts-from s l others = record {
  whole = l;
  within = same_sets (intersection s implemented) s (length-intersection s implemented)
      (λ i h. has_place-intersection s implemented i ∙ kept (has_place s i) (has_place implemented i) (others i));
}
  where
    kept : (x y : Bool) → (y ≡ false → x ≡ false) → (x && y) ≡ x
    kept x true h = and_true x
    kept x false h = and_false x ∙ sym (h refl)

interrupts_others : (s : List Bool) → IsInterrupts s → (i : ℕ) → has_place implemented i ≡ false → has_place s i ≡ false
interrupts_others s h i e =
    ap (λ t. has_place t i) (sym h.within) ∙ has_place-intersection s implemented i ∙ ap (λ x. has_place s i && x) e ∙ and_false _

pub interrupts-none : IsInterrupts no_places
interrupts-none = interrupts-from no_places length-no_places (λ i e. has_place-no_places i)

pub interrupts-minus : (s t : List Bool) → IsInterrupts s → IsInterrupts (minus s t)
interrupts-minus s t h =
    interrupts-from (minus s t) (length-minus s t ∙ h.whole) (λ i e. has_place-minus s t i ∙ ap (λ x. x && not (has_place t i)) (interrupts_others s h i e))

pub interrupts-named : (v : List Bool) → length v ≡ 32 → IsInterrupts (intersection v implemented)
interrupts-named v l =
    interrupts-from (intersection v implemented) (length-intersection v implemented ∙ l) (λ i e. has_place-intersection v implemented i ∙ ap (λ x. has_place v i && x) e ∙ and_false _)

interrupts-union : (s t : List Bool) → IsInterrupts s → IsInterrupts t → IsInterrupts (union s t)
interrupts-union s t h k =
    interrupts-from (union s t) (length-union s t (h.whole ∙ sym k.whole) ∙ h.whole)
    (λ i e. has_place-union s t i ∙ ap (λ x. x || has_place t i) (interrupts_others s h i e) ∙ interrupts_others t k i e)

interrupts-raised : (b : Bool) (m s : List Bool) → IsInterrupts m → IsInterrupts s → IsInterrupts (raised b m s)
interrupts-raised true m s h k = interrupts-union s m k h
interrupts-raised false m s h k = k

pub interrupts_after : (b : Bool) (m s r : List Bool) → r ≡ raised b m s → IsInterrupts m → IsInterrupts s → IsInterrupts r
interrupts_after b m s r e h k = subst IsInterrupts (sym e) (interrupts-raised b m s h k)

-- each interrupt that a FIS raises is one of this model's
interrupts-bit : (w : ℕ) → bit_and w 0x4000000f ≡ w → IsInterrupts (bits w)
interrupts-bit w e = record { whole = length-bits w; within = sym (bits_and w 0x4000000f) ∙ ap bits e }

pub interrupts-dhrs : IsInterrupts dhrs
interrupts-dhrs = interrupts-bit (2 ^ 0) refl

pub interrupts-pss : IsInterrupts pss
interrupts-pss = interrupts-bit (2 ^ 1) refl

pub interrupts-sdbs : IsInterrupts sdbs
interrupts-sdbs = interrupts-bit (2 ^ 3) refl

pub interrupts-tfes : IsInterrupts tfes
interrupts-tfes = interrupts-bit (2 ^ 30) refl

pub interrupts_after_fis : (i error : Bool) (own s r : List Bool) → r ≡ raised error tfes (raised i own s) → IsInterrupts own → IsInterrupts s → IsInterrupts r
interrupts_after_fis i error own s r e h k =
    interrupts_after error tfes (raised i own s) r e interrupts-tfes (interrupts-raised i own s h k)

-- ---- lawful states

-- where all but the depth and the bases may change
lawful_with : (s : PortState) (st fre : Bool) (sts err : ℕ) (is ie sact ci : List Bool) → IsLawful s → IsSlots s.depth sact → IsSlots s.depth ci → IsInterrupts is → IsInterrupts ie
    → (st ≡ true → fre ≡ true) → (st ≡ false → (sact ≡ no_places) × (ci ≡ no_places)) → sts < 256 → err < 256
    → IsLawful (record s { sact = sact; ci = ci; is = is; ie = ie; st = st; fre = fre; sts = sts; err = err })
lawful_with s st fre sts err is ie sact ci h of_sact of_ci of_is of_ie receiving stopped below_sts below_err =
    record { some_slot = h.some_slot; slots = h.slots; sact = of_sact; ci = of_ci; is = of_is; ie = of_ie; receiving = receiving; stopped = stopped; sts = below_sts; err = below_err; clb = h.clb; fb = h.fb }

-- where a FIS replaces the status, raises interrupts and takes commands away
pub kept_by_fis : (s : PortState) (sts err : ℕ) (is sact ci : List Bool) → IsLawful s → sts < 256 → err < 256 → IsInterrupts is → IsSlots s.depth sact
    → IsSlots s.depth ci → (s.sact ≡ no_places → sact ≡ no_places) → (s.ci ≡ no_places → ci ≡ no_places) → IsLawful (record s { sts = sts; err = err; is = is; sact = sact; ci = ci })
kept_by_fis s sts err is sact ci h below_sts below_err known slots_sact slots_ci keeps_sact keeps_ci =
    lawful_with s s.st s.fre sts err is s.ie sact ci h slots_sact slots_ci known h.ie h.receiving (λ k. (keeps_sact (h.stopped k).0, keeps_ci (h.stopped k).1)) below_sts below_err

-- where an interrupt is cleared or enabled
pub kept_by_interrupts : (s : PortState) (is ie : List Bool) → IsLawful s → IsInterrupts is → IsInterrupts ie → IsLawful (record s { is = is; ie = ie })
kept_by_interrupts s is ie h known_is known_ie =
    lawful_with s s.st s.fre s.sts s.err is ie s.sact s.ci h h.sact h.ci known_is known_ie h.receiving h.stopped h.sts h.err

-- where ST, FRE or a slot changes
pub kept_by_command : (s : PortState) (st fre : Bool) (sact ci : List Bool) → IsLawful s → IsSlots s.depth sact → IsSlots s.depth ci → (st ≡ true → fre ≡ true)
    → (st ≡ false → (sact ≡ no_places) × (ci ≡ no_places)) → IsLawful (record s { st = st; fre = fre; sact = sact; ci = ci })
kept_by_command s st fre sact ci h slots_sact slots_ci receiving stopped =
    lawful_with s st fre s.sts s.err s.is s.ie sact ci h slots_sact slots_ci h.is h.ie receiving stopped h.sts h.err

pub slots-remaining : (d : ℕ) (stops : Bool) (s : List Bool) → IsSlots d s → IsSlots d (remaining stops s)
slots-remaining d true s h = slots-none d
slots-remaining d false s h = h

-- a port that is stopped by a write, or was stopped before it, has no command
pub remaining_of_stopped : (was st : Bool) (s : List Bool) → (was ≡ false → s ≡ no_places) → st ≡ false → remaining (was && not st) s ≡ no_places
remaining_of_stopped true true s h e = cc
remaining_of_stopped true false s h e = refl
remaining_of_stopped false st s h e = h refl

-- FRE is set in each started port: it was before, or the value has it too
pub receives_when_started : (was fre_was st fre : Bool) → (was && not fre) ≡ false → (not was && st && not (fre_was && fre)) ≡ false → st ≡ true → fre ≡ true
receives_when_started was fre_was st true h k e = refl
receives_when_started true fre_was st false h k e = cc
receives_when_started false true true false h k e = cc
receives_when_started false false true false h k e = cc
receives_when_started false fre_was false false h k e = cc

-- a port that has not been started
pub lawful-first : (depth : ℕ) → 1 ≤ depth → depth ≤ 32 → IsLawful (first_state depth)
lawful-first depth low high = record {
  some_slot = low;
  slots = high;
  sact = slots-none depth;
  ci = slots-none depth;
  is = interrupts-none;
  ie = interrupts-none;
  receiving = λ e. cc;
  stopped = λ e. (refl, refl);
  sts = omega arith;
  err = omega arith;
  clb = record { low = omega arith; aligned = refl };
  fb = record { low = omega arith; aligned = refl };
}

pub first-fields : (depth is ie : ℕ) → is ≡ 0 → ie ≡ 0 → record (first_state depth) { sact = bits 0; ci = bits 0; is = bits is; ie = bits ie } ≡ first_state depth
first-fields depth is ie e f = rw (e, f, bits_zero) refl

pub status_after_bits-lt : (sts status : ℕ) → sts < 256 → status < 256 → status_after_bits sts status < 256
status_after_bits-lt sts status h k =
    or_of_8 (bit_and sts 0x88) (bit_and status 0x77) (omega (arith, and_le_l sts 0x88)) (omega (arith, and_le_l status 0x77))
