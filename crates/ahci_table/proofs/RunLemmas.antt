-- Texts that are joined of runs of bytes: what copying run by run leaves.
use Rattle.std.proofs.Common.{◌≡◌, ℕ, suc, ◌+◌, ◌-◌, ◌<◌, ◌≤◌, min, true, false, ◌⊎◌, eqb, leb, ltb, List, [], ◌∷◌, ◌++◌, length, take, drop, get_or, ap, sym, refl, subst, ◌∙◌, arith, inl, inr}
use Rattle.std.proofs.lemmas.List.{length-drop, length-append, length-take, length-take-le, nil_from_length, take-take, drop-drop, drop-take}
use Rattle.std.proofs.Math.Seq.{take-add}
use Rattle.std.proofs.lemmas.Bool.{cases_lt, and_parts, and_from, and_left, and_right, or_from, or_parts, lt-leb, le-leb, lt-ltb, le-ltb, eqb-true, false≢true}
use Rattle.std.specs.List.{All, list_all}
use borrow.Rule.Slice.PartMut.{put_mid}
use Rattle.ahci_table.specs.declared.piece.Piece.{Piece}
use Rattle.ahci_table.specs.Piece.{end_of, covers, is_apart, are_apart, are_one_run, total}
use Rattle.ahci_table.specs.Scatter.{in_some}
use Rattle.ahci_table.specs.Text.{bytes_of, joined, replaced}
use Rattle.ahci_table.proofs.PartLemmas.{replaced-append, part-put_mid, put_outside, length-put, same_part}

-- copying run by run
abbrev pub scattered : List Piece → ℕ → List ℕ → List ℕ → List ℕ
scattered [] skip from bytes = bytes
scattered (p ∷ ps) skip from bytes =
    let lead = min skip p.len in
    let count = min (p.len - lead) (length from) in
    scattered ps (skip - lead) (drop count from) (put_mid (p.at + lead) count bytes (take count from))

-- each piece ends where the bytes end, or before
abbrev pub Inside : ℕ → List Piece → Type 0
Inside n [] = Unit {0}
Inside n (p ∷ ps) = (end_of p ≤ n) × Inside n ps

pub inside_from : (n : ℕ) (ps : List Piece) → All (λ p. end_of p ≤ n) ps → Inside n ps
inside_from n [] h = tt
inside_from n (p ∷ ps) h = (h 0 p (omega arith), inside_from n ps (λ k d l. h (suc k) d (omega arith)))

-- a place that a piece doesn't cover is before or after it
not_covered : (x : ℕ) (p : Piece) → covers x p ≡ false → (x < p.at) ⊎ (end_of p ≤ x)
not_covered x p e =
    elim (cases_lt x p.at) [
      | inl below ↦ inl below
      | inr from ↦ elim (cases_lt x (end_of p)) [
        | inl inside ↦ absurd (false≢true (sym e ∙ and_from (leb p.at x) (ltb x (end_of p)) (le-leb p.at x from) (lt-ltb x (end_of p) inside)))
        | inr after ↦ inr after
      ]
    ]

-- pieces that share no byte: one is before the other
apart_sides : (p q : Piece) → is_apart p q ≡ true → (end_of p ≤ q.at) ⊎ (end_of q ≤ p.at)
apart_sides p q e =
    elim (cases_lt q.at (end_of p)) [
      | inl one ↦ elim (cases_lt p.at (end_of q)) [
        | inl two ↦ absurd (false≢true (sym (or_from (leb (end_of p) q.at) (leb (end_of q) p.at) (lt-leb (end_of p) q.at one) (lt-leb (end_of q) p.at two)) ∙ e))
        | inr after ↦ inr after
      ]
      | inr before ↦ inl before
    ]

-- a place in a piece is in no other one that is apart from it
pub apart_in : (p : Piece) (ps : List Piece) (x : ℕ) → list_all (is_apart p) ps ≡ true → p.at ≤ x → x < end_of p → in_some x ps ≡ false
apart_in p [] x e a b = refl
apart_in p (q ∷ qs) x e a b =
    let rest = apart_in p qs x ((and_parts (is_apart p q) (list_all (is_apart p) qs) e).1) a b in
    or_from (covers x q) (in_some x qs) (out (apart_sides p q ((and_parts (is_apart p q) (list_all (is_apart p) qs) e).0))) rest
  where
    out : (end_of p ≤ q.at) ⊎ (end_of q ≤ p.at) → covers x q ≡ false
    out (inl before) = and_left (leb q.at x) (ltb x (end_of q)) (lt-leb q.at x (omega arith))
    out (inr after) = and_right (leb q.at x) (ltb x (end_of q)) (le-ltb x (end_of q) (omega arith))

-- one step of the copying stays within the first piece
pub record Step (p : Piece) (skip : ℕ) (from bytes : List ℕ) (lead count : ℕ) : Type 0 where
  pub in_piece : lead + count ≤ p.len
  pub cut : length (take count from) ≡ count
  pub fits : p.at + lead + count ≤ length bytes
  pub len : length (put_mid (p.at + lead) count bytes (take count from)) ≡ length bytes

step : (p : Piece) (skip : ℕ) (from bytes : List ℕ) → end_of p ≤ length bytes → Step p skip from bytes (min skip p.len) (min (p.len - min skip p.len) (length from))
step p skip from bytes h =
    let lead = min skip p.len in
    let count = min (p.len - lead) (length from) in
    let in_piece : lead + count ≤ p.len = omega arith in
    let cut : length (take count from) ≡ count = length-take-le count from (omega arith) in
    let fits : p.at + lead + count ≤ length bytes = omega arith in
    record { in_piece = in_piece; cut = cut; fits = fits; len = length-put (p.at + lead) count bytes (take count from) cut fits }

pub length-scattered : (ps : List Piece) (skip : ℕ) (from bytes : List ℕ) → Inside (length bytes) ps → length (scattered ps skip from bytes) ≡ length bytes
length-scattered [] skip from bytes h = refl
length-scattered (p ∷ ps) skip from bytes h =
    let lead = min skip p.len in
    let count = min (p.len - lead) (length from) in
    let s = step p skip from bytes h.0 in
    length-scattered ps (skip - lead) (drop count from) (put_mid (p.at + lead) count bytes (take count from)) (subst (λ n. Inside n ps) (sym s.len) h.1) ∙ s.len

-- a byte that is in no piece stays
pub scattered_outside : (ps : List Piece) (skip : ℕ) (from bytes : List ℕ) (x : ℕ) → Inside (length bytes) ps → in_some x ps ≡ false → get_or (scattered ps skip from bytes) x 0 ≡ get_or bytes x 0
scattered_outside [] skip from bytes x h e = refl
scattered_outside (p ∷ ps) skip from bytes x h e =
    let lead = min skip p.len in
    let count = min (p.len - lead) (length from) in
    let s = step p skip from bytes h.0 in
    scattered_outside ps (skip - lead) (drop count from) (put_mid (p.at + lead) count bytes (take count from)) x (subst (λ n. Inside n ps) (sym s.len) h.1) (or_parts (covers x p) (in_some x ps) e).1
    ∙ put_outside (p.at + lead) count bytes (take count from) x 0 s.cut s.fits (out lead count s.in_piece (not_covered x p (or_parts (covers x p) (in_some x ps) e).0))
  where
    out : (lead count : ℕ) → lead + count ≤ p.len → (x < p.at) ⊎ (end_of p ≤ x) → (x < p.at + lead) ⊎ (p.at + lead + count ≤ x)
    out lead count within (inl before) = inl (omega arith)
    out lead count within (inr after) = inr (omega arith)

-- what is copied into a piece changes no piece apart from it
joined_apart : (p : Piece) (qs : List Piece) (a k : ℕ) (bytes ys : List ℕ) → list_all (is_apart p) qs ≡ true → length ys ≡ k
    → p.at ≤ a → a + k ≤ end_of p → end_of p ≤ length bytes → joined qs (put_mid a k bytes ys) ≡ joined qs bytes
joined_apart p [] a k bytes ys e len low high inside = refl
joined_apart p (q ∷ qs) a k bytes ys e len low high inside =
    let fits : a + k ≤ length bytes = omega arith in
    let first : bytes_of q (put_mid a k bytes ys) ≡ bytes_of q bytes = same_part q.at q.len (put_mid a k bytes ys) bytes (length-put a k bytes ys len fits)
    (λ x from to. put_outside a k bytes ys x 0 len fits (out x from to (apart_sides p q ((and_parts (is_apart p q) (list_all (is_apart p) qs) e).0)))) in
    let rest = joined_apart p qs a k bytes ys ((and_parts (is_apart p q) (list_all (is_apart p) qs) e).1) len low high inside in
    ap (λ z. z ++ joined qs (put_mid a k bytes ys)) first ∙ ap (λ z. bytes_of q bytes ++ z) rest
  where
    out : (x : ℕ) → q.at ≤ x → x < q.at + q.len → (end_of p ≤ q.at) ⊎ (end_of q ≤ p.at) → (x < a) ⊎ (a + k ≤ x)
    out x from to (inl before) = inr (omega arith)
    out x from to (inr after) = inl (omega arith)

pub length-bytes_of : (p : Piece) (bytes : List ℕ) → end_of p ≤ length bytes → length (bytes_of p bytes) ≡ p.len
length-bytes_of p bytes h = let d : length (drop p.at bytes) ≡ length bytes - p.at = length-drop p.at bytes in length-take-le p.len (drop p.at bytes) (omega arith)

-- the text after the copying is the text before with these bytes in it
pub joined-scattered : (ps : List Piece) (skip : ℕ) (from bytes : List ℕ) → Inside (length bytes) ps → are_apart ps ≡ true → skip + length from ≤ length (joined ps bytes)
    → joined ps (scattered ps skip from bytes) ≡ replaced skip from (joined ps bytes)
joined-scattered [] skip from bytes h e within =
    let none : from ≡ [] = nil_from_length from (omega arith) in
    let start : skip ≡ 0 = omega arith in
    sym (ap (λ z. replaced skip z []) none ∙ ap (λ k. replaced k [] []) start)
joined-scattered (p ∷ ps) skip from bytes h e within =
    let lead = min skip p.len in
    let count = min (p.len - lead) (length from) in
    let next = put_mid (p.at + lead) count bytes (take count from) in
    let done = scattered ps (skip - lead) (drop count from) next in
    let s = step p skip from bytes h.0 in
    let first : list_all (is_apart p) ps ≡ true = (and_parts (list_all (is_apart p) ps) (are_apart ps) e).0 in
    let others : are_apart ps ≡ true = (and_parts (list_all (is_apart p) ps) (are_apart ps) e).1 in
    let inside : Inside (length next) ps = subst (λ n. Inside n ps) (sym s.len) h.1 in
    let same : joined ps next ≡ joined ps bytes = joined_apart p ps (p.at + lead) count bytes (take count from) first s.cut (omega arith) (let i = s.in_piece in omega arith) h.0 in
    let len : length (bytes_of p bytes) ≡ p.len = length-bytes_of p bytes h.0 in
    let total : length (bytes_of p bytes ++ joined ps bytes) ≡ p.len + length (joined ps bytes) = length-append (bytes_of p bytes) (joined ps bytes) ∙ ap (λ n. n + length (joined ps bytes)) len in
    let left : length (drop count from) ≡ length from - count = length-drop count from in
    let next_len : length (joined ps next) ≡ length (joined ps bytes) = ap length same in
    let own : bytes_of p done ≡ replaced lead (take count from) (bytes_of p bytes) =
    same_part p.at p.len done next (length-scattered ps (skip - lead) (drop count from) next inside)
    (λ x low high. scattered_outside ps (skip - lead) (drop count from) next x inside (apart_in p ps x first low high))
    ∙ part-put_mid p.at p.len lead count bytes (take count from) s.cut s.in_piece h.0 in
    let rest : joined ps done ≡ replaced (skip - lead) (drop count from) (joined ps bytes) =
    joined-scattered ps (skip - lead) (drop count from) next inside others (omega arith)
    ∙ ap (replaced (skip - lead) (drop count from)) same in
    ap (λ z. z ++ joined ps done) own ∙ ap (λ z. replaced lead (take count from) (bytes_of p bytes) ++ z) rest
    ∙ sym (replaced-append skip lead count from (bytes_of p bytes) (joined ps bytes) (ap (min skip) (sym len)) (ap (λ n. min (n - lead) (length from)) (sym len)))

-- the text of pieces that lie one after the other is a part of the bytes
one_run : (ps : List Piece) (bytes : List ℕ) (place : ℕ) → are_one_run place ps ≡ true → joined ps bytes ≡ take (total ps) (drop place bytes)
one_run [] bytes place e = refl
one_run (p ∷ ps) bytes place e =
    let parts = and_parts (eqb p.at place) (are_one_run (end_of p) ps) e in
    let same : p.at ≡ place = eqb-true p.at place parts.0 in
    ap (λ xs. take p.len (drop p.at bytes) ++ xs) (one_run ps bytes (end_of p) parts.1 ∙ ap (take (total ps)) (sym (drop-drop p.len p.at bytes)))
    ∙ sym (take-add p.len (total ps) (drop p.at bytes))
    ∙ ap (λ k. take (p.len + total ps) (drop k bytes)) same

-- and a part of it too
pub one_run_part : (ps : List Piece) (bytes : List ℕ) (place offset len : ℕ) → are_one_run place ps ≡ true → offset + len ≤ length (joined ps bytes)
    → take len (drop (place + offset) bytes) ≡ take len (drop offset (joined ps bytes))
one_run_part ps bytes place offset len e fits =
    let run = drop place bytes in
    let is = one_run ps bytes place e in
    let size = ap length is ∙ length-take (total ps) run in
    let rest : total ps ≡ offset + (total ps - offset) = omega (arith, size) in
    sym (
    ap (λ xs. take len (drop offset xs)) is
    ∙ ap (λ k. take len (drop offset (take k run))) rest
    ∙ ap (take len) (drop-take offset (total ps - offset) run)
    ∙ take-take len (total ps - offset) (drop offset run) (omega (arith, size))
    ∙ ap (take len) (drop-drop offset place bytes))

-- a part of pieces that are one run ends within the bytes
pub part_ends : (ps : List Piece) (bytes : List ℕ) (first : Piece) (place offset len : ℕ) → All (λ p. end_of p ≤ length bytes) ps → 0 < length ps → first ≡ get_or ps 0 first
    → place ≡ first.at → true ≡ are_one_run place ps → offset + len ≤ length (joined ps bytes) → first.at + offset + len ≤ length bytes
part_ends ps bytes first place offset len inside some is begins e fits =
    let size = ap length (one_run ps bytes place (sym e)) ∙ length-take (total ps) (drop place bytes) in
    let d = length-drop place bytes in
    let end : end_of first ≤ length bytes = subst (λ p. end_of p ≤ length bytes) (sym is) (inside 0 first some) in
    omega arith
