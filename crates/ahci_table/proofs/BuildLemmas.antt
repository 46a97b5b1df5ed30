-- What is written into a new window.
use Rattle.std.proofs.Common.{◌≡◌, ℕ, ◌+◌, ◌-◌, ◌*◌, ◌<◌, ◌≤◌, zero, suc, max, ◌%◌, Bool, true, false, nat_eq, List, [], ◌∷◌, ◌++◌, length, take, drop, replicate, get_or, ap, sym, refl, subst, ◌∙◌, arith}
use Rattle.std.specs.List.{All, flat_map}
use Rattle.std.proofs.lemmas.Bool.{eqb-true}
use Rattle.std.proofs.lemmas.Grind.{flat_map-append}
use Rattle.std.proofs.lemmas.List.{append_assoc, take_more, append-nil, length-append, length-replicate, drop_all, take_at, drop-replicate, take-replicate, replicate-append-replicate, get_or_past}
use Rattle.sata_fis.specs.Command.{h2d_for}
use Rattle.sata_fis.specs.Encoding.{h2d_bytes}
use Rattle.ncq_journal.specs.Work.{Work, Write, sectors_of}
use Rattle.ahci_table.specs.declared.piece.Piece.{Piece}
use Rattle.ahci_table.specs.Build.{IsBuilt, data_for, entry_for, header_for, queued_for, table_for}
use Rattle.ahci_table.specs.Laying.{laid, rises}
use Rattle.ahci_table.specs.Piece.{end_of, furthest, total}
use Rattle.ahci_table.specs.Prdt.{entry_place}
use Rattle.ahci_table.specs.Scatter.{in_some}
use Rattle.ahci_table.specs.Text.{bytes_of, joined, replaced}
use Rattle.ahci_table.specs.Window.{base}
use Rattle.ahci_table.proofs.LayingLemmas.{joined-laid, length-laid, others-laid, zeros_after}
use Rattle.ahci_table.proofs.PartLemmas.{drop-append, same_part}
use Rattle.ahci_table.proofs.RefusalLemmas.{IsFree, all_after, not_false}
use Rattle.ahci_table.proofs.WindowLemmas.{none_before}

-- one entry more
pub table_more : (front : List ℕ) (start s i : ℕ) (ps : List Piece) (d : Piece) (table next entry : List ℕ)
    → i < length ps → table ≡ front ++ flat_map (entry_for start) (take i ps) → next ≡ table ++ entry → entry ≡ entry_for s (get_or ps i d) → s ≡ start
    → next ≡ front ++ flat_map (entry_for start) (take (i + 1) ps)
table_more front start s i ps d table next entry below so_far added value same =
    let p = get_or ps i d in
    let more : flat_map (entry_for start) (take (i + 1) ps) ≡ flat_map (entry_for start) (take i ps) ++ entry_for start p =
    ap (flat_map (entry_for start)) (take_more ps i d below)
    ∙ flat_map-append (entry_for start) (take i ps) (p ∷ [])
    ∙ ap (λ z. flat_map (entry_for start) (take i ps) ++ z) (append-nil (entry_for start p)) in
    added ∙ ap (λ z. z ++ entry) so_far
    ∙ append_assoc front (flat_map (entry_for start) (take i ps)) entry
    ∙ ap (λ z. front ++ (flat_map (entry_for start) (take i ps) ++ z)) (value ∙ ap (λ k. entry_for k p) same)
    ∙ ap (λ z. front ++ z) (sym more)

-- a PRDT has 16 bytes an entry
pub length-prdt : (start : ℕ) (ps : List Piece) → length (flat_map (entry_for start) ps) ≡ 16 * length ps
length-prdt start [] = refl
length-prdt start (p ∷ ps) = let rest = length-prdt start ps in omega arith

pub length-table : (tag : ℕ) (work : Work) (fua : Bool) (ps : List Piece) → length (table_for tag work fua ps) ≡ entry_place (length ps)
length-table tag work fua ps =
    let front = h2d_bytes (h2d_for (queued_for tag work fua)) ++ replicate 108 0 in
    length-append front (flat_map (entry_for (base tag)) ps) ∙ ap (λ n. 128 + n) (length-prdt (base tag) ps)

-- each piece ends where the one that reaches furthest ends, or before
pub furthest_covers : (ps : List Piece) → All (λ p. end_of p ≤ furthest ps) ps
furthest_covers [] k d l = absurd (omega arith)
furthest_covers (p ∷ ps) zero d l = omega arith
furthest_covers (p ∷ ps) (suc k) d l = let h = furthest_covers ps k d (omega arith) in omega arith

pub furthest_within : (n : ℕ) (ps : List Piece) → All (λ p. end_of p ≤ n) ps → furthest ps ≤ n
furthest_within n [] h = omega arith
furthest_within n (p ∷ ps) h =
    let first : end_of p ≤ n = h 0 p (omega arith) in
    let rest : furthest ps ≤ n = furthest_within n ps (λ k d l. h (suc k) d (omega arith)) in omega arith

-- the end is after the table
pub table_fits : (t : ℕ) (ps : List Piece) → 1 ≤ length ps → All (λ p. t ≤ p.at) ps → t ≤ furthest ps
table_fits t [] some h = absurd (omega arith)
table_fits t (p ∷ ps) some h = let first : t ≤ p.at = h 0 p (omega arith) in omega arith

-- pieces after the table hold zeros at first
pub joined-zeros : (front : List ℕ) (m : ℕ) (ps : List Piece) → All (λ p. length front ≤ p.at) ps
    → All (λ p. end_of p ≤ length front + m) ps → joined ps (front ++ replicate m 0) ≡ replicate (total ps) 0
joined-zeros front m [] low high = refl
joined-zeros front m (p ∷ ps) low high =
    let a : length front ≤ p.at = low 0 p (omega arith) in
    let b : end_of p ≤ length front + m = high 0 p (omega arith) in
    let skip = p.at - length front in
    let own : bytes_of p (front ++ replicate m 0) ≡ replicate p.len 0 =
    ap (take p.len) (drop-append p.at front (replicate m 0) ∙ ap (λ z. z ++ drop skip (replicate m 0)) (drop_all p.at front a) ∙ drop-replicate skip m 0)
    ∙ take-replicate p.len (m - skip) 0 (omega arith) in
    ap (λ z. z ++ joined ps (front ++ replicate m 0)) own
    ∙ ap (λ z. replicate p.len 0 ++ z) (joined-zeros front m ps (λ k d l. low (suc k) d (omega arith)) (λ k d l. high (suc k) d (omega arith)))
    ∙ replicate-append-replicate p.len (total ps) 0

-- a text that is replaced as a whole
pub replaced_all : (from text : List ℕ) → length from ≡ length text → replaced 0 from text ≡ from
replaced_all from text e = ap (λ z. from ++ z) (drop_all (0 + length from) text (omega arith)) ∙ append-nil from

-- the window that is written
pub built : (tag : ℕ) (work : Work) (fua : Bool) (ps : List Piece) (header bytes table : List ℕ) → IsFree work ps → header ≡ header_for tag work (length ps)
    → table ≡ table_for tag work fua ps → length bytes ≡ furthest ps → joined ps bytes ≡ data_for work
    → ((x : ℕ) → in_some x ps ≡ false → get_or bytes x 0 ≡ get_or table x 0)
    → IsBuilt tag work fua ps (record { tag = tag; header = header; bytes = bytes })
built tag work fua ps header bytes table f h is len moved others =
    let n = furthest ps - length table in
    let t = entry_place (length ps) in
    let front : length table ≡ t = ap length is ∙ length-table tag work fua ps in
    let after = all_after work ps f in
    let fits : t ≤ furthest ps = table_fits t ps f.has after in
    let whole : length (table ++ replicate n 0) ≡ furthest ps = length-append table (replicate n 0)
    ∙ ap (λ k. length table + k) (length-replicate n 0) ∙ (let e : length table + n ≡ furthest ps = omega arith in e) in
    record {
      tag_is = refl;
      header_is = h;
      table_is = same_part 0 t bytes (table ++ replicate n 0) (len ∙ sym whole)
          (λ x l u. others x (none_before t x ps after (omega arith)) ∙ sym (zeros_after table n x)) ∙ take_at table (replicate n 0) t front ∙ is;
      end_is = len;
      data_is = moved;
      gaps = λ x l e. others x e ∙ get_or_past table x 0 (omega arith);
    }

-- the bytes before a write's data are copied in: they end where the pieces end, and the pieces hold zeros
pub length-blank : (table : List ℕ) (work : Work) (ps : List Piece) → IsFree work ps → length table ≡ entry_place (length ps)
    → length (table ++ replicate (furthest ps - length table) 0) ≡ furthest ps
length-blank table work ps f front =
    let n = furthest ps - length table in
    let fits : entry_place (length ps) ≤ furthest ps = table_fits (entry_place (length ps)) ps f.has (all_after work ps f) in
    length-append table (replicate n 0) ∙ ap (λ k. length table + k) (length-replicate n 0) ∙ (let e : length table + n ≡ furthest ps = omega arith in e)

pub joined-blank : (table : List ℕ) (work : Work) (ps : List Piece) → IsFree work ps → length table ≡ entry_place (length ps)
    → joined ps (table ++ replicate (furthest ps - length table) 0) ≡ replicate (512 * sectors_of work) 0
joined-blank table work ps f front =
    let n = furthest ps - length table in
    let fits : entry_place (length ps) ≤ furthest ps = table_fits (entry_place (length ps)) ps f.has (all_after work ps f) in
    let end : furthest ps ≡ length table + n = omega arith in
    joined-zeros table n ps (subst (λ t. All (λ p. t ≤ p.at) ps) (sym front) (all_after work ps f))
    (subst (λ e. All (λ p. end_of p ≤ e) ps) end (furthest_covers ps))
    ∙ ap (λ m. replicate m 0) f.sum

-- a write's bytes are as many as its pieces have
pub write_sum : (lba : ℕ) (text : List ℕ) (ps : List Piece) → IsFree (Write lba text) ps → total ps ≡ length text
write_sum lba text ps f =
    let whole : length text % 512 ≡ 0 = eqb-true (length text % 512) 0 (not_false (nat_eq (length text % 512) 0) f.whole) in
    let sum = f.sum in omega arith

-- a write's data, piece by piece
pub record IsLaid (ps : List Piece) (table text bytes : List ℕ) : Type 0 where
  pub len : length bytes ≡ furthest ps
  pub text_is : joined ps bytes ≡ text
  pub others : (x : ℕ) → in_some x ps ≡ false → get_or bytes x 0 ≡ get_or table x 0

pub is_laid : (lba : ℕ) (ps : List Piece) (table text bytes : List ℕ) → IsFree (Write lba text) ps → length table ≡ entry_place (length ps)
    → rises (length table) ps ≡ true → bytes ≡ table ++ laid (length table) ps text → IsLaid ps table text bytes
is_laid lba ps table text bytes f front r is =
    let sum = write_sum lba text ps f in
    let fits : entry_place (length ps) ≤ furthest ps = table_fits (entry_place (length ps)) ps f.has (all_after (Write lba text) ps f) in
    let end = length-laid (length table) ps text r sum in
    record {
      len = ap length is ∙ length-append table (laid (length table) ps text) ∙ end ∙ (let e : max (length table) (furthest ps) ≡ furthest ps = omega arith in e);
      text_is = ap (joined ps) is ∙ joined-laid table (length table) ps text refl r sum;
      others = λ x e. ap (λ z. get_or z x 0) is ∙ others-laid table ps text x r sum e;
    }
