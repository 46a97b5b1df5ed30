-- Lemmas on writes that change little.
use Rattle.std.proofs.Common.{◌≡◌, ℕ, Bool, true, false, not, ◌&&◌, ◌||◌, if◌then◌else◌, List, [], ◌∷◌, length, bit_and, bit_or, Ok, Err, IfOk, refl, sym, ◌∙◌, ap, lit<}
use Rattle.std.specs.Int.Bits.{and_self, and_zero_r}
use Rattle.std.proofs.lemmas.Nat.{and_assoc, and_or_apart}
use Rattle.word_bits.specs.Places.{bits, has_place, no_places, union, minus, only_below}
use Rattle.word_bits.proofs.PlacesLemmas.{union-no_places, minus-no_places, only_below-no_places}
use Rattle.word_bits.proofs.BitsLemmas.{has_place-bits, bits_or, bits_zero}
use Rattle.ahci_regs.specs.declared.fault.RegFault.{RegFault}
use Rattle.ahci_regs.specs.declared.fault.RegFault.TheVariants.{NotStarted, NotReceiving, Running}
use Rattle.ahci_regs.specs.PortState.{PortState, IsLawful}
use Rattle.ahci_regs.specs.Receiving.{after_bits, has_error, raised, sdbs, status_after_bits, tfes}
use Rattle.ahci_regs.specs.RegisterTable.{register_at}
use Rattle.ahci_regs.specs.Reading.{command_word, read_of}
use Rattle.ahci_regs.specs.Writing.{write_of, with_command, commanded}
use Rattle.ahci_regs.proofs.StateLemmas.{remaining_of_stopped}

-- ---- a written 0

pub zero_to_is : (s : PortState) → write_of s 0x110 0 ≡ Ok s
unfolding register_at
zero_to_is s = ap (λ x. Ok (record s { is = x })) (ap (minus s.is) bits_zero ∙ minus-no_places s.is)

no_slot_gained : (d : ℕ) (s : List Bool) → length s ≡ 32 → union s (only_below d (bits 0)) ≡ s
no_slot_gained d s l =
    ap (λ x. union s (only_below d x)) bits_zero ∙ ap (union s) (only_below-no_places d) ∙ union-no_places s l

pub zero_to_sact : (s : PortState) → IsLawful s → s.st ≡ true → write_of s 0x134 0 ≡ Ok s
unfolding register_at
zero_to_sact s h e =
    ap (λ b. if b then Ok (record s { sact = union s.sact (only_below s.depth (bits 0)) }) else Err NotStarted) e ∙ ap (λ x. Ok (record s { sact = x })) (no_slot_gained s.depth s.sact h.sact.whole)

pub zero_to_ci : (s : PortState) → IsLawful s → s.st ≡ true → write_of s 0x138 0 ≡ Ok s
unfolding register_at
zero_to_ci s h e =
    ap (λ b. if b then Ok (record s { ci = union s.ci (only_below s.depth (bits 0)) }) else Err NotStarted) e ∙ ap (λ x. Ok (record s { ci = x })) (no_slot_gained s.depth s.ci h.ci.whole)

-- ---- ST cleared

at_last : (P : PortState → Type 0) (f g : RegFault) (s : PortState) → P s → (b c : Bool) → IfOk (if b then Err f else if c then Err g else Ok s) P
at_last P f g s h true c = tt
at_last P f g s h false true = tt
at_last P f g s h false false = h

pub stopped_by_write : (s : PortState) (value : ℕ) → IsLawful s → has_place (bits value) 0 ≡ false → IfOk (write_of s 0x118 value) (λ t. (t.sact ≡ no_places) × (t.ci ≡ no_places))
unfolding register_at
stopped_by_write s value h e =
    let st = has_place (bits value) 0 in
    let fre = has_place (bits value) 4 in
    at_last (λ t. (t.sact ≡ no_places) × (t.ci ≡ no_places)) Running NotReceiving (commanded s st fre)
    (remaining_of_stopped s.st st s.sact (λ k. (h.stopped k).0) e, remaining_of_stopped s.st st s.ci (λ k. (h.stopped k).1) e)
    (s.st && not fre) (not s.st && st && not (s.fre && fre))

-- ---- PxCMD written back

pub read_of_command : (s : PortState) → read_of s 0x118 ≡ Ok (command_word s.st s.fre)
unfolding register_at
read_of_command s = refl

st_of_word : (st fre : Bool) → has_place (bits (command_word st fre)) 0 ≡ st
st_of_word true true = has_place-bits _ 0 (lit< tt)
st_of_word true false = has_place-bits _ 0 (lit< tt)
st_of_word false true = has_place-bits _ 0 (lit< tt)
st_of_word false false = has_place-bits _ 0 (lit< tt)

fre_of_word : (st fre : Bool) → has_place (bits (command_word st fre)) 4 ≡ fre
fre_of_word true true = has_place-bits _ 4 (lit< tt)
fre_of_word true false = has_place-bits _ 4 (lit< tt)
fre_of_word false true = has_place-bits _ 4 (lit< tt)
fre_of_word false false = has_place-bits _ 4 (lit< tt)

unchanged : (s : PortState) (st fre : Bool) → (st ≡ true → fre ≡ true) → with_command (record s { st = st; fre = fre }) st fre ≡ Ok (record s { st = st; fre = fre })
unchanged s true true h = refl
unchanged s true false h = let e = h refl in cc
unchanged s false fre h = refl

pub command_written_back : (s : PortState) → IsLawful s → write_of s 0x118 (command_word s.st s.fre) ≡ Ok s
unfolding register_at
command_written_back s h =
    ap (λ b. with_command s b (has_place (bits (command_word s.st s.fre)) 4)) (st_of_word s.st s.fre) ∙ ap (with_command s s.st) (fre_of_word s.st s.fre) ∙ unchanged s s.st s.fre h.receiving

-- ---- one FIS for the commands of two

-- the same status once more
status_again : (sts status : ℕ) → status_after_bits (status_after_bits sts status) status ≡ status_after_bits sts status
status_again sts status =
    let own = bit_and status 0x77 in
    let apart : bit_and own 0x88 ≡ 0 = and_assoc 0x88 status 0x77 ∙ and_zero_r status in
    ap (λ x. bit_or x own) (and_or_apart 0x88 (bit_and sts 0x88) own apart ∙ and_assoc 0x88 sts 0x88 ∙ ap (bit_and sts) (and_self 0x88))

or_comm : (x y : Bool) → (x || y) ≡ (y || x)
or_comm true true = refl
or_comm true false = refl
or_comm false true = refl
or_comm false false = refl

or_assoc : (x y z : Bool) → ((x || y) || z) ≡ (x || (y || z))
or_assoc true y z = refl
or_assoc false y z = refl

or_self : (x : Bool) → (x || x) ≡ x
or_self true = refl
or_self false = refl

not_or : (x y z : Bool) → ((x && not y) && not z) ≡ (x && not (y || z))
not_or true true z = refl
not_or true false z = refl
not_or false y z = refl

union_comm : (s t : List Bool) → union s t ≡ union t s
unfolding union
union_comm [] [] = refl
union_comm [] (y ∷ t) = refl
union_comm (x ∷ s) [] = refl
union_comm (x ∷ s) (y ∷ t) = let first = or_comm x y in let others = union_comm s t in rw (first, others) refl

union_assoc : (s t u : List Bool) → union (union s t) u ≡ union s (union t u)
unfolding union
union_assoc [] t u = refl
union_assoc (x ∷ s) [] u = refl
union_assoc (x ∷ s) (y ∷ t) [] = refl
union_assoc (x ∷ s) (y ∷ t) (z ∷ u) = let first = or_assoc x y z in let others = union_assoc s t u in rw (first, others) refl

union_self : (s : List Bool) → union s s ≡ s
unfolding union
union_self [] = refl
union_self (x ∷ s) = let first = or_self x in let others = union_self s in rw (first, others) refl

union_again : (s t : List Bool) → union (union s t) t ≡ union s t
union_again s t = union_assoc s t t ∙ ap (union s) (union_self t)

-- what was raised, raised once more
raised_again : (e i : Bool) (s : List Bool) → raised e tfes (raised i sdbs (raised e tfes (raised i sdbs s))) ≡ raised e tfes (raised i sdbs s)
raised_again false false s = refl
raised_again false true s = union_again s sdbs
raised_again true false s = union_again s tfes
raised_again true true s =
    ap (λ x. union x tfes)
    (union_assoc (union s sdbs) tfes sdbs ∙ ap (union (union s sdbs)) (union_comm tfes sdbs) ∙ sym (union_assoc (union s sdbs) sdbs tfes) ∙ ap (λ x. union x tfes) (union_again s sdbs))
    ∙ union_again (union s sdbs) tfes

minus_both : (s t u : List Bool) → minus (minus s t) u ≡ minus s (union t u)
unfolding minus union
minus_both [] t u = refl
minus_both (x ∷ s) [] u = refl
minus_both (x ∷ s) (y ∷ t) [] = refl
minus_both (x ∷ s) (y ∷ t) (z ∷ u) = let first = not_or x y z in let others = minus_both s t u in rw (first, others) refl

pub ended_by_one : (s : PortState) (status error : ℕ) (i : Bool) (first second : ℕ)
    → after_bits (after_bits s status error i first) status error i second ≡ after_bits s status error i (bit_or first second)
ended_by_one s status error i first second =
    let e = has_error status in
    let is = raised e tfes (raised i sdbs (raised e tfes (raised i sdbs s.is))) in
    let sact = minus (minus s.sact (bits first)) (bits second) in
    let sts = status_after_bits s.sts status in
    ap (λ x. record s { sts = x; err = error; is = is; sact = sact }) (status_again s.sts status)
    ∙ ap (λ x. record s { sts = sts; err = error; is = x; sact = sact }) (raised_again e i s.is)
    ∙ ap (λ x. record s { sts = sts; err = error; is = raised e tfes (raised i sdbs s.is); sact = x })
    (minus_both s.sact (bits first) (bits second) ∙ ap (minus s.sact) (sym (bits_or first second)))
