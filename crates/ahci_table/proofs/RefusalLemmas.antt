-- What it says that nothing refuses a command with a list of pieces.
use Rattle.std.proofs.Common.{◌≡◌, ℕ, ◌*◌, ◌%◌, ◌^◌, ◌<◌, ◌≤◌, ◌≢◌, zero, suc, Bool, true, false, not, cond, ◌||◌, nat_eq, ltb, leb, eq-eqb, inl, inr, List, [], ◌∷◌}
use Rattle.std.proofs.Common.{length, Option, Some, None, ap, sym, refl, ◌∙◌, arith}
use Rattle.std.specs.List.{All, list_any}
use Rattle.std.proofs.lemmas.Bool.{cases_lt, or_parts, eqb-true, lt-ltb, le-leb, false≢true}
use Rattle.ncq_journal.specs.Lawful.{most_sectors}
use Rattle.ncq_journal.specs.Work.{Work, lba_of, sectors_of, is_ragged}
use Rattle.ahci_table.specs.declared.piece.Piece.{Piece}
use Rattle.ahci_table.specs.declared.fault.BuildFault.{BuildFault}
use Rattle.ahci_table.specs.declared.fault.BuildFault.TheVariants.{BadCount, BadLba, NoPieces, TooManyPieces, OddPiece, PieceOutside, PiecesOverlap, WrongTotal}
use Rattle.ahci_table.specs.Piece.{end_of, are_apart, total}
use Rattle.ahci_table.specs.Prdt.{entry_place}
use Rattle.ahci_table.specs.Refusal.{has_bad_count, is_odd, is_outside, list_refusal, refusal}
use Rattle.ahci_table.specs.Window.{most_bytes}

pub record IsFree (work : Work) (ps : List Piece) : Type 0 where
  pub some : 1 ≤ sectors_of work
  pub most : sectors_of work ≤ most_sectors
  pub whole : is_ragged work ≡ false
  pub lba : lba_of work < 2 ^ 48
  pub has : 1 ≤ length ps
  pub few : length ps ≤ 32
  pub fine : list_any is_odd ps ≡ false
  pub inside : list_any (is_outside (length ps)) ps ≡ false
  pub apart : are_apart ps ≡ true
  pub sum : total ps ≡ 512 * sectors_of work

not_eq : (a b : ℕ) → nat_eq a b ≡ false → a ≢ b
not_eq a b e same = absurd (false≢true (sym (sym (ap (λ c. nat_eq c b) same ∙ eq-eqb b b refl) ∙ e)))

-- tests that fail
le_from : (a b : ℕ) → ltb a b ≡ false → b ≤ a
le_from a b e = elim (cases_lt a b) [ inl l ↦ absurd (false≢true (sym e ∙ lt-ltb a b l)) | inr h ↦ h ]

lt_from : (a b : ℕ) → leb a b ≡ false → b < a
lt_from a b e = elim (cases_lt b a) [ inl l ↦ l | inr h ↦ absurd (false≢true (sym e ∙ le-leb a b h)) ]

pub not_false : (b : Bool) → not b ≡ false → b ≡ true
not_false true e = refl
not_false false e = absurd (false≢true (sym e))

-- a refusal that isn't there: neither this case nor a later one
first_not : (b : Bool) (f : BuildFault) (rest : Option BuildFault) → cond b (Some f) rest ≡ None → b ≡ false
first_not true f rest e = absurd (cc)
first_not false f rest e = refl

then_not : (b : Bool) (f : BuildFault) (rest : Option BuildFault) → cond b (Some f) rest ≡ None → rest ≡ None
then_not true f rest e = absurd (cc)
then_not false f rest e = e

list_free : (ps : List Piece) (bytes : ℕ) → list_refusal ps bytes ≡ None
    → (nat_eq (length ps) 0 ≡ false) × (ltb 32 (length ps) ≡ false) × (list_any is_odd ps ≡ false)
    × (list_any (is_outside (length ps)) ps ≡ false) × (not (are_apart ps) ≡ false) × (not (nat_eq (total ps) bytes) ≡ false)
list_free ps bytes e =
    let e1 = then_not (nat_eq (length ps) 0) NoPieces _ e in
    let e2 = then_not (ltb 32 (length ps)) TooManyPieces _ e1 in
    let e3 = then_not (list_any is_odd ps) OddPiece _ e2 in
    let e4 = then_not (list_any (is_outside (length ps)) ps) PieceOutside _ e3 in
    let e5 = then_not (not (are_apart ps)) PiecesOverlap _ e4 in (
      first_not (nat_eq (length ps) 0) NoPieces _ e,
      first_not (ltb 32 (length ps)) TooManyPieces _ e1,
      first_not (list_any is_odd ps) OddPiece _ e2,
      first_not (list_any (is_outside (length ps)) ps) PieceOutside _ e3,
      first_not (not (are_apart ps)) PiecesOverlap _ e4,
      first_not (not (nat_eq (total ps) bytes)) WrongTotal _ e5,
    )

pub free_from : (work : Work) (ps : List Piece) → refusal work ps ≡ None → IsFree work ps
free_from work ps e =
    let n = sectors_of work in
    let count = first_not (has_bad_count work) BadCount _ e in
    let e1 = then_not (has_bad_count work) BadCount _ e in
    let address = first_not (leb (2 ^ 48) (lba_of work)) BadLba _ e1 in
    let l = list_free ps (512 * n) (then_not (leb (2 ^ 48) (lba_of work)) BadLba _ e1) in
    let both = (or_parts (nat_eq n 0 || ltb most_sectors n) (is_ragged work) count).0 in
    let some = not_eq n 0 ((or_parts (nat_eq n 0) (ltb most_sectors n) both).0) in
    let has = not_eq (length ps) 0 l.0 in
    record {
      some = omega arith;
      most = le_from most_sectors n ((or_parts (nat_eq n 0) (ltb most_sectors n) both).1);
      whole = (or_parts (nat_eq n 0 || ltb most_sectors n) (is_ragged work) count).1;
      lba = lt_from (2 ^ 48) (lba_of work) address;
      has = omega arith;
      few = le_from 32 (length ps) l.1;
      fine = l.2;
      inside = l.3;
      apart = not_false (are_apart ps) l.4;
      sum = eqb-true (total ps) (512 * n) (not_false (nat_eq (total ps) (512 * n)) l.5);
    }

-- what no piece is, each isn't
pub none_of : (q : Piece → Bool) (P : Piece → Type 0) → ((p : Piece) → q p ≡ false → P p) → (ps : List Piece) → list_any q ps ≡ false → All P ps
none_of q P f [] e k d l = absurd (omega arith)
none_of q P f (p ∷ ps) e zero d l = f p ((or_parts (q p) (list_any q ps) e).0)
none_of q P f (p ∷ ps) e (suc k) d l = none_of q P f ps ((or_parts (q p) (list_any q ps) e).1) k d (omega arith)

-- a piece that isn't odd
pub record IsEven (p : Piece) : Type 0 where
  pub at : p.at % 2 ≡ 0
  pub len : p.len % 2 ≡ 0
  pub some : 0 < p.len
  pub most : p.len ≤ 2 ^ 22

even_from : (p : Piece) → is_odd p ≡ false → IsEven p
even_from p e =
    let a = not (nat_eq (p.at % 2) 0) in
    let b = not (nat_eq (p.len % 2) 0) in
    let c = nat_eq p.len 0 in
    let d = ltb (2 ^ 22) p.len in
    let e3 = (or_parts (a || b || c) d e).0 in
    let e2 = (or_parts (a || b) c e3).0 in
    let none = not_eq p.len 0 ((or_parts (a || b) c e3).1) in
    record {
      at = eqb-true (p.at % 2) 0 (not_false (nat_eq (p.at % 2) 0) ((or_parts a b e2).0));
      len = eqb-true (p.len % 2) 0 (not_false (nat_eq (p.len % 2) 0) ((or_parts a b e2).1));
      some = omega arith;
      most = le_from (2 ^ 22) p.len ((or_parts (a || b || c) d e).1);
    }

pub all_even : (work : Work) (ps : List Piece) → IsFree work ps → All IsEven ps
all_even work ps f = none_of is_odd IsEven even_from ps f.fine

pub all_after : (work : Work) (ps : List Piece) → IsFree work ps → All (λ p. entry_place (length ps) ≤ p.at) ps
all_after work ps f =
    none_of (is_outside (length ps)) (λ p. entry_place (length ps) ≤ p.at)
    (λ p e. le_from p.at (entry_place (length ps)) ((or_parts (ltb p.at (entry_place (length ps))) (ltb most_bytes (end_of p)) e).0)) ps f.inside

pub all_below : (work : Work) (ps : List Piece) → IsFree work ps → All (λ p. end_of p ≤ most_bytes) ps
all_below work ps f =
    none_of (is_outside (length ps)) (λ p. end_of p ≤ most_bytes)
    (λ p e. le_from most_bytes (end_of p) ((or_parts (ltb p.at (entry_place (length ps))) (ltb most_bytes (end_of p)) e).1)) ps f.inside
