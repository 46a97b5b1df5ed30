-- Lemmas on pending interrupts.
use Rattle.std.proofs.Common.{◌≡◌, ◌≢◌, ℕ, zero, suc, ◌<◌, Bool, true, false, not, ◌&&◌, ◌||◌, if◌then◌else◌, List, [], ◌∷◌, length, ◌∙◌, refl, sym, ap, nat_eq, arith}
use Rattle.word_bits.specs.Places.{bits, no_places, intersection, word_of, has_place}
use Rattle.std.proofs.lemmas.Bool.{ne_eqb}
use Rattle.word_bits.proofs.PlacesLemmas.{has_place-no_places, has_place-with_same, has_place-with_other, length-with_place, and_false}
use Rattle.word_bits.proofs.BitsLemmas.{has_place-bits}
use Rattle.hba_regs.specs.CapFields.{CapFields}
use Rattle.hba_regs.specs.HbaState.{HbaPort, HbaState, IsKept, reset_port}
use Rattle.hba_regs.specs.Interrupts.{interrupts, is_pending, raised, settled}

none_met : (s t : List Bool) → ((i : ℕ) → (has_place s i && has_place t i) ≡ false) → word_of (intersection s t) ≡ 0
unfolding word_of intersection
none_met [] t h = refl
none_met (x ∷ s) [] h = let e : word_of (intersection s []) ≡ 0 = none_met s [] (λ i. and_false (has_place s i)) in rw e refl
none_met (x ∷ s) (y ∷ t) h =
    let e : word_of (intersection s t) ≡ 0 = none_met s t (λ i. h (suc i)) in
    let f : (x && y) ≡ false = h 0 in
    rw (f, e) refl

-- nothing is pending if no bit is set in both
pub pending_of_none : (s t : List Bool) → ((i : ℕ) → (has_place s i && has_place t i) ≡ false) → not (nat_eq (word_of (intersection s t)) 0) ≡ false
pending_of_none s t h = ap (λ w. not (nat_eq w 0)) (none_met s t h)

some_met : (s t : List Bool) (i : ℕ) → has_place s i ≡ true → has_place t i ≡ true → 0 < word_of (intersection s t)
unfolding word_of intersection
some_met [] t i h k = cc
some_met (x ∷ s) [] i h k = cc
some_met (x ∷ s) (y ∷ t) zero h k = rw (h, k) (omega arith)
some_met (x ∷ s) (y ∷ t) (suc i) h k = let e : 0 < word_of (intersection s t) = some_met s t i h k in omega (arith, e)

-- an interrupt is pending if a bit is set in both
pub pending_of_some : (s t : List Bool) (i : ℕ) → has_place s i ≡ true → has_place t i ≡ true → not (nat_eq (word_of (intersection s t)) 0) ≡ true
pending_of_some s t i h k =
    let b : 0 < word_of (intersection s t) = some_met s t i h k in
    ap not (ne_eqb (word_of (intersection s t)) 0 (omega (arith, b)))

pub either : (b : Bool) (p q : HbaPort) (P : HbaPort → Type 0) → P p → P q → P (if b then p else q)
either true p q P h k = h
either false p q P h k = k

pub pending-reset : (present : Bool) (c : CapFields) (clb fb : ℕ) → is_pending (reset_port present c clb fb) ≡ false
pending-reset present c clb fb = pending_of_none (interrupts (reset_port present c clb fb)) no_places (λ i. ap (λ b. has_place (interrupts (reset_port present c clb fb)) i && b) (has_place-no_places i) ∙ and_false _)

-- ---- PCS and PRCS

length-raised : (b : Bool) (place : ℕ) (s : List Bool) → length (raised b place s) ≡ length s
length-raised true place s = length-with_place s place
length-raised false place s = refl

raised_alone : (b : Bool) (s : List Bool) (place : ℕ) → place < length s → has_place s place ≡ false → has_place (raised b place s) place ≡ b
raised_alone true s place l h = has_place-with_same s place l
raised_alone false s place l h = h

raised_elsewhere : (b : Bool) (s : List Bool) (place i : ℕ) → i ≢ place → has_place (raised b place s) i ≡ has_place s i
raised_elsewhere true s place i n = has_place-with_other s place i n
raised_elsewhere false s place i n = refl

-- PxIS without PCS and PRCS, and without PCS
abbrev no_prcs : HbaPort → List Bool
no_prcs p = raised (has_place p.serr 25) 4 p.is

abbrev no_pcs : HbaPort → List Bool
no_pcs p = raised (has_place p.serr 16) 22 (no_prcs p)

length-no_prcs : (p : HbaPort) → length (no_prcs p) ≡ length p.is
length-no_prcs p = length-raised (has_place p.serr 25) 4 p.is

pub pcs_of_serr : (p : HbaPort) → length p.is ≡ 32 → IsKept p.is → has_place (interrupts p) 6 ≡ has_place p.serr 26
pcs_of_serr p l h =
    raised_alone (has_place p.serr 26) (no_pcs p) 6 (omega (arith, l, length-no_prcs p, length-raised (has_place p.serr 16) 22 (no_prcs p)))
    (raised_elsewhere (has_place p.serr 16) (no_prcs p) 22 6 (omega arith) ∙ raised_elsewhere (has_place p.serr 25) p.is 4 6 (omega arith) ∙ h.no_pcs)

pub prcs_of_serr : (p : HbaPort) → length p.is ≡ 32 → IsKept p.is → has_place (interrupts p) 22 ≡ has_place p.serr 16
prcs_of_serr p l h =
    raised_elsewhere (has_place p.serr 26) (no_pcs p) 6 22 (omega arith)
    ∙ raised_alone (has_place p.serr 16) (no_prcs p) 22 (omega (arith, l, length-no_prcs p)) (raised_elsewhere (has_place p.serr 25) p.is 4 22 (omega arith) ∙ h.no_prcs)

pub ufs_of_serr : (p : HbaPort) → length p.is ≡ 32 → IsKept p.is → has_place (interrupts p) 4 ≡ has_place p.serr 25
ufs_of_serr p l h =
    raised_elsewhere (has_place p.serr 26) (no_pcs p) 6 4 (omega arith) ∙ raised_elsewhere (has_place p.serr 16) (no_prcs p) 22 4 (omega arith)
    ∙ raised_alone (has_place p.serr 25) p.is 4 (omega (arith, l)) h.no_ufs

-- ---- IS

or_of : (a b : Bool) → (b ≡ true → a ≡ true) → (a || b) ≡ a
or_of true b h = refl
or_of false true h = sym (h refl)
or_of false false h = refl

pub settled_again : (s : HbaState) → (is_pending s.port ≡ true → s.ips ≡ true) → settled s ≡ s
settled_again s h = ap (λ b. record s { ips = b }) (or_of (s.ips) (is_pending s.port) h)

pub ips_cleared : (b p : Bool) → (b && not (has_place (bits 1) 0) || p) ≡ p
ips_cleared b p = ap (λ x. b && not x || p) (has_place-bits 1 0 (omega arith)) ∙ ap (λ x. x || p) (and_false b)
