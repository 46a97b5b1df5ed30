-- Lemmas on what the registers of a port keep: the bits of PxIS that are kept, and no command while the port is stopped.
use Rattle.std.proofs.Common.{◌≡◌, ◌≢◌, ℕ, ◌%◌, ◌^◌, Bool, true, false, not, nat_eq, ◌&&◌, ◌||◌, if◌then◌else◌, List, sym, ◌∙◌, refl, ap, subst, arith, ⊎_elim}
use Rattle.std.proofs.lemmas.Bool.{cases_eq}
use Rattle.word_bits.specs.Places.{bits, has_place, no_places, with_place, without_place, intersection, minus, only_below, union}
use Rattle.std.specs.Int.Bits.{and_zero_l}
use Rattle.word_bits.proofs.PlacesLemmas.{same_sets, length-intersection, has_place-intersection, has_place-no_places, has_place-with_other, has_place-minus, has_place-only_below_past, has_place-union, has_place-without_other, has_place-without_same, minus-none, without_place-none}
use Rattle.word_bits.proofs.BitsLemmas.{bits_and, bits_zero}
use Rattle.hba_regs.specs.HbaState.{HbaPort, IsBelow, IsKept, IsLawful, IsPowered, asked_link, enables, spun_link}
use Rattle.hba_regs.specs.CapFields.{CapFields}
use Rattle.hba_regs.specs.Interrupts.{raised, place_of}
use Rattle.hba_regs.specs.PortStates.{ended_by_signature}
use Rattle.hba_regs.specs.Writing.{remaining}
use Rattle.hba_regs.specs.declared.signature.Signature.{Signature}
use Rattle.hba_regs.specs.declared.soft_reset.SoftReset.{SoftReset}
use Rattle.hba_regs.specs.declared.soft_reset.SoftReset.TheVariants.{Off, Held, Ending}
use Rattle.hba_regs.specs.declared.link.Link.{Link}
use Rattle.hba_regs.specs.declared.link.Link.TheVariants.{Up, Listening, InReset, Offline}
use Rattle.hba_regs.specs.declared.fatal.Fatal.{Fatal}
use Rattle.hba_regs.specs.declared.fatal.Fatal.TheVariants.{HostBusFatal, HostBusData, Interface}

-- ---- PxIS

pub kept-none : IsKept no_places
kept-none = record { no_ufs = has_place-no_places 4; no_pcs = has_place-no_places 6; no_prcs = has_place-no_places 22 }

gone : (s t : List Bool) (i : ℕ) → has_place s i ≡ false → has_place (minus s t) i ≡ false
gone s t i e = has_place-minus s t i ∙ ap (λ x. x && not (has_place t i)) e

pub kept-minus : (s t : List Bool) → IsKept s → IsKept (minus s t)
kept-minus s t h = record { no_ufs = gone s t 4 h.no_ufs; no_pcs = gone s t 6 h.no_pcs; no_prcs = gone s t 22 h.no_prcs }

-- a place other than UFS, PCS and PRCS
pub kept-with : (s : List Bool) (place : ℕ) → 4 ≢ place → 6 ≢ place → 22 ≢ place → IsKept s → IsKept (with_place s place)
kept-with s place u p q h =
    record {
      no_ufs = has_place-with_other s place 4 u ∙ h.no_ufs;
      no_pcs = has_place-with_other s place 6 p ∙ h.no_pcs;
      no_prcs = has_place-with_other s place 22 q ∙ h.no_prcs;
    }

pub kept-raised : (b : Bool) (s : List Bool) (place : ℕ) → 4 ≢ place → 6 ≢ place → 22 ≢ place → IsKept s → IsKept (raised b place s)
kept-raised true s place u p q h = kept-with s place u p q h
kept-raised false s place u p q h = h

pub kept-fatal : (s : List Bool) (fatal : Fatal) → IsKept s → IsKept (with_place s (place_of fatal))
kept-fatal s HostBusFatal h = kept-with s 29 (omega arith) (omega arith) (omega arith) h
kept-fatal s HostBusData h = kept-with s 28 (omega arith) (omega arith) (omega arith) h
kept-fatal s Interface h = kept-with s 27 (omega arith) (omega arith) (omega arith) h

-- ---- commands

pub minus_of_none : (s t r : List Bool) → r ≡ minus s t → s ≡ no_places → r ≡ no_places
minus_of_none s t r e h = e ∙ ap (λ x. minus x t) h ∙ minus-none t

pub without_of_none : (s r : List Bool) (slot : ℕ) → r ≡ without_place s slot → s ≡ no_places → r ≡ no_places
without_of_none s r slot e h = e ∙ ap (λ x. without_place x slot) h ∙ without_place-none slot

-- PxCI after the signature of a software reset
pub signed_of_none : (soft : SoftReset) (s r : List Bool) → r ≡ ended_by_signature soft s → s ≡ no_places → r ≡ no_places
signed_of_none (Ending slot) s r e h = without_of_none s r slot e h
signed_of_none Off s r e h = e ∙ h
signed_of_none Held s r e h = e ∙ h

-- ---- the slots that the command list has

pub none_below : (n : ℕ) → IsBelow n no_places
none_below n = record { none = λ i h. has_place-no_places i }

pub zero_below : (n : ℕ) → IsBelow n (bits 0)
zero_below n = subst (IsBelow n) (sym bits_zero) (none_below n)

without_stays : (s : List Bool) (slot i : ℕ) → has_place s i ≡ false → has_place (without_place s slot) i ≡ false
without_stays s slot i e =
    ⊎_elim (λ k. subst (λ j. has_place (without_place s slot) j ≡ false) (sym k) (has_place-without_same s slot))
    (λ k. has_place-without_other s slot i k ∙ e) (cases_eq i slot)

pub minus_below : (n : ℕ) (s t r : List Bool) → r ≡ minus s t → IsBelow n s → IsBelow n r
minus_below n s t r e h = subst (IsBelow n) (sym e) (record { none = λ i k. gone s t i (h.none i k) })

pub without_below : (n : ℕ) (s r : List Bool) (slot : ℕ) → r ≡ without_place s slot → IsBelow n s → IsBelow n r
without_below n s r slot e h = subst (IsBelow n) (sym e) (record { none = λ i k. without_stays s slot i (h.none i k) })

pub signed_below : (n : ℕ) (soft : SoftReset) (s r : List Bool) → r ≡ ended_by_signature soft s → IsBelow n s → IsBelow n r
signed_below n (Ending slot) s r e h = without_below n s r slot e h
signed_below n Off s r e h = subst (IsBelow n) (sym e) h
signed_below n Held s r e h = subst (IsBelow n) (sym e) h

pub remaining_below : (n : ℕ) (stops : Bool) (s r : List Bool) → r ≡ remaining stops s → IsBelow n s → IsBelow n r
remaining_below n true s r e h = subst (IsBelow n) (sym e) (none_below n)
remaining_below n false s r e h = subst (IsBelow n) (sym e) h

-- with the slots of a word that are below n
both_clear : (a b : Bool) → a ≡ false → b ≡ false → (a || b) ≡ false
both_clear false false e f = refl
both_clear true b e f = cc
both_clear false true e f = cc

pub gained_below : (n : ℕ) (s t r : List Bool) → r ≡ union s (only_below n t) → IsBelow n s → IsBelow n r
gained_below n s t r e h = subst (IsBelow n) (sym e)
    (record { none = λ i k. has_place-union s (only_below n t) i ∙ both_clear _ _ (h.none i k) (has_place-only_below_past n t i k) })

-- ---- SUD, ALPE and ASP

and_none : (b : Bool) → (b && false) ≡ false
and_none true = refl
and_none false = refl

pub or_twice : (b : Bool) → (b || b) ≡ b
or_twice true = refl
or_twice false = refl

pub or_true : (b : Bool) → (b || true) ≡ true
or_true true = refl
or_true false = refl

pub first_power : (c : CapFields) → IsPowered c true false false
first_power c = record { spun = or_true (not c.sss); saves = and_none c.salp; slumbers = and_none c.salp }

or_again : (a b : Bool) → (a || (a || b)) ≡ (a || b)
or_again true b = refl
or_again false b = refl

pub or_kept : (a b r : Bool) → r ≡ (a || b) → (a || r) ≡ r
or_kept a b r e = ap (λ x. a || x) e ∙ or_again a b ∙ sym e

and_twice : (a b : Bool) → (a && (a && b)) ≡ (a && b)
and_twice true b = refl
and_twice false b = refl

pub and_kept : (a b r : Bool) → r ≡ (a && b) → (a && r) ≡ r
and_kept a b r e = ap (λ x. a && x) e ∙ and_twice a b ∙ sym e

-- ---- the link

-- one that DET asks for stays so with any device and any SUD
asked_by : (a b c present later sud next : Bool) (link : Link) → (if a then spun_link present sud link else if b then InReset else if c then Offline else link) ≡ link
    → (if a then spun_link later next link else if b then InReset else if c then Offline else link) ≡ link
asked_by true b c present later sud next Up e = refl
asked_by true b c present later sud next Listening e = refl
asked_by true b c true later true next InReset e = cc
asked_by true b c true later false next InReset e = cc
asked_by true b c false later sud next InReset e = cc
asked_by true b c true later true next Offline e = cc
asked_by true b c true later false next Offline e = cc
asked_by true b c false later sud next Offline e = cc
asked_by false b c present later sud next link e = e

pub stays_asked : (det : ℕ) (present later sud next : Bool) (link : Link) → asked_link det present sud link ≡ link → asked_link det later next link ≡ link
stays_asked det present later sud next link e = asked_by (nat_eq det 0) (nat_eq det 1) (nat_eq det 4) present later sud next link e

-- a link that DET neither holds in COMRESET nor has disabled
abbrev pub is_free_link : Link → Bool
is_free_link Up = true
is_free_link Listening = true
is_free_link link = false

-- a link that is up or listens may come up, and be lost, whatever DET is
free_by : (a b c present later sud next : Bool) (link other : Link) → (if a then spun_link present sud link else if b then InReset else if c then Offline else link) ≡ link
    → is_free_link link ≡ true → is_free_link other ≡ true
    → (if a then spun_link later next other else if b then InReset else if c then Offline else other) ≡ other
free_by true b c present later sud next link Up e f g = refl
free_by true b c present later sud next link Listening e f g = refl
free_by true b c present later sud next link InReset e f g = cc
free_by true b c present later sud next link Offline e f g = cc
free_by false true c present later sud next Up other e f g = cc
free_by false true c present later sud next Listening other e f g = cc
free_by false true c present later sud next InReset other e f g = cc
free_by false true c present later sud next Offline other e f g = cc
free_by false false true present later sud next Up other e f g = cc
free_by false false true present later sud next Listening other e f g = cc
free_by false false true present later sud next InReset other e f g = cc
free_by false false true present later sud next Offline other e f g = cc
free_by false false false present later sud next link other e f g = refl

pub may_come_up : (det : ℕ) (present later sud next : Bool) (link : Link) → asked_link det present sud link ≡ link → is_free_link link ≡ true
    → asked_link det later next Up ≡ Up
may_come_up det present later sud next link e f = free_by (nat_eq det 0) (nat_eq det 1) (nat_eq det 4) present later sud next link Up e f refl

pub may_listen : (det : ℕ) (present later sud next : Bool) (link : Link) → asked_link det present sud link ≡ link → is_free_link link ≡ true
    → asked_link det later next Listening ≡ Listening
may_listen det present later sud next link e f = free_by (nat_eq det 0) (nat_eq det 1) (nat_eq det 4) present later sud next link Listening e f refl

-- a link that DET brings up has a device
present_by : (a b c present sud : Bool) (link : Link) → (if a then spun_link present sud link else if b then InReset else if c then Offline else link) ≡ Up
    → (link ≡ Up → present ≡ true) → present ≡ true
present_by true b c present sud Up e h = h refl
present_by true b c present sud Listening e h = cc
present_by true b c true sud InReset e h = refl
present_by true b c false sud InReset e h = cc
present_by true b c true sud Offline e h = refl
present_by true b c false sud Offline e h = cc
present_by false true c present sud link e h = cc
present_by false false true present sud link e h = cc
present_by false false false present sud link e h = h e

pub brought_up : (det : ℕ) (present sud : Bool) (link : Link) → asked_link det present sud link ≡ Up → (link ≡ Up → present ≡ true) → present ≡ true
brought_up det present sud link e h = present_by (nat_eq det 0) (nat_eq det 1) (nat_eq det 4) present sud link e h

-- ---- a stopped port

-- a port that is stopped by a write, or was stopped before it, has no command
pub remaining_of_stopped : (was st : Bool) (s r : List Bool) → r ≡ remaining (was && not st) s → (was ≡ false → s ≡ no_places) → st ≡ false → r ≡ no_places
remaining_of_stopped true true s r k h e = cc
remaining_of_stopped true false s r k h e = k
remaining_of_stopped false st s r k h e = k ∙ h refl

-- ---- PxIE

pub none_enabled : intersection (bits 0) enables ≡ bits 0
none_enabled = sym (bits_and 0 0x7dc0007f) ∙ ap bits (and_zero_l 0x7dc0007f)

and_again : (x y : Bool) → ((x && y) && y) ≡ (x && y)
and_again true true = refl
and_again true false = refl
and_again false y = refl

intersection-again : (v m : List Bool) → intersection (intersection v m) m ≡ intersection v m
intersection-again v m =
    same_sets (intersection (intersection v m) m) (intersection v m) (length-intersection (intersection v m) m)
    (λ i h. has_place-intersection (intersection v m) m i
    ∙ ap (λ x. x && has_place m i) (has_place-intersection v m i) ∙ and_again (has_place v i) (has_place m i) ∙ sym (has_place-intersection v m i))

pub enabled_again : (v r : List Bool) → r ≡ intersection v enables → intersection r enables ≡ r
enabled_again v r e = ap (λ x. intersection x enables) e ∙ intersection-again v enables ∙ sym e

-- ---- a port that stays lawful

-- no command comes, whatever becomes of the device
pub lawful_commands : (p : HbaPort) (sts err sig : ℕ) (signature : Signature) (soft : SoftReset) (sact ci : List Bool)
    → (p.sact ≡ no_places → sact ≡ no_places) → (p.ci ≡ no_places → ci ≡ no_places) → IsBelow p.capabilities.ncs sact → IsBelow p.capabilities.ncs ci
    → IsLawful p → IsLawful (record p { sts = sts; err = err; sig = sig; signature = signature; soft = soft; sact = sact; ci = ci })
lawful_commands p sts err sig signature soft sact ci none none' below below' h = record {
  capable = h.capable;
  clb = h.clb;
  fb = h.fb;
  reach = h.reach;
  is = h.is;
  ie = h.ie;
  stopped = λ e. (none (h.stopped e).0, none' (h.stopped e).1);
  sact = below;
  ci = below';
  power = h.power;
  sctl = h.sctl;
  link = h.link;
  present = h.present;
  ccs = h.ccs;
  speed = h.speed;
  first = h.first;
}

-- other interrupts, whether or not the port halts
pub lawful_interrupts : (p : HbaPort) (is ie : List Bool) (halted : Bool) → IsKept is → intersection ie enables ≡ ie
    → IsLawful p → IsLawful (record p { is = is; ie = ie; halted = halted })
lawful_interrupts p is ie halted kept enabled h =
    record { capable = h.capable; clb = h.clb; fb = h.fb; reach = h.reach; is = kept; ie = enabled; stopped = h.stopped; sact = h.sact; ci = h.ci; power = h.power; sctl = h.sctl; link = h.link; present = h.present; ccs = h.ccs; speed = h.speed; first = h.first }

-- another SUD, ALPE and ASP, and a link that DET asks for with them
pub lawful_power : (p : HbaPort) (sud alpe asp : Bool) → IsPowered p.capabilities sud alpe asp → asked_link (p.sctl % 2 ^ 4) p.present sud p.link ≡ p.link
    → IsLawful p → IsLawful (record p { sud = sud; alpe = alpe; asp = asp })
lawful_power p sud alpe asp power link h =
    record { capable = h.capable; clb = h.clb; fb = h.fb; reach = h.reach; is = h.is; ie = h.ie; stopped = h.stopped; sact = h.sact; ci = h.ci; power = power; sctl = h.sctl; link = link; present = h.present; ccs = h.ccs; speed = h.speed; first = h.first }
