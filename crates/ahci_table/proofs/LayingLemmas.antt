-- A window whose data are laid piece by piece is one whose pieces held zeros before the data were copied in.
use Rattle.std.proofs.Common.{◌≡◌, ℕ, ◌+◌, ◌-◌, ◌≤◌, max, true, false, leb, ltb, List, [], ◌∷◌, ◌++◌, length, take, drop, replicate, get_or, ap, sym, refl, subst, ◌∙◌, arith, inl, inr}
use Rattle.std.proofs.lemmas.Bool.{cases_lt, and_parts, and_from, or_parts, le-leb, lt-ltb, leb-true, false≢true}
use Rattle.std.proofs.lemmas.List.{append_assoc, length-append, length-replicate, length-take-le, length-drop, take-append-drop, take_at, nil_from_length, drop_at, get_or-replicate, get_or_past, get_or_append_left, get_or-append_right}
use Rattle.ahci_table.specs.declared.piece.Piece.{Piece}
use Rattle.ahci_table.specs.Laying.{laid, rises}
use Rattle.ahci_table.specs.Piece.{covers, end_of, furthest, total}
use Rattle.ahci_table.specs.Scatter.{in_some}
use Rattle.ahci_table.specs.Text.{bytes_of, joined}

-- pieces that rise: the first begins at the end or after it
begins : (end : ℕ) (p : Piece) (ps : List Piece) → rises end (p ∷ ps) ≡ true → end ≤ p.at
begins end p ps r = leb-true end p.at (and_parts (leb end p.at) (rises (end_of p) ps) r).0

others_rise : (end : ℕ) (p : Piece) (ps : List Piece) → rises end (p ∷ ps) ≡ true → rises (end_of p) ps ≡ true
others_rise end p ps r = (and_parts (leb end p.at) (rises (end_of p) ps) r).1

left_over : (p : Piece) (ps : List Piece) (text : List ℕ) → total (p ∷ ps) ≡ length text → total ps ≡ length (drop p.len text)
left_over p ps text sum = let left = length-drop p.len text in omega arith

own_length : (p : Piece) (ps : List Piece) (text : List ℕ) → total (p ∷ ps) ≡ length text → length (take p.len text) ≡ p.len
own_length p ps text sum = length-take-le p.len text (omega arith)

-- what is laid ends where the piece that reaches furthest ends
pub length-laid : (end : ℕ) (ps : List Piece) (text : List ℕ) → rises end ps ≡ true → total ps ≡ length text
    → end + length (laid end ps text) ≡ max end (furthest ps)
length-laid end [] text r sum = omega arith
length-laid end (p ∷ ps) text r sum =
    let from : end ≤ p.at = begins end p ps r in
    let gap : List ℕ = replicate (p.at - end) 0 in
    let own = take p.len text in
    let rest = laid (end_of p) ps (drop p.len text) in
    let all : length (gap ++ own ++ rest) ≡ length gap + length own + length rest =
    length-append (gap ++ own) rest ∙ ap (λ n. n + length rest) (length-append gap own) in
    let gap_is : length gap ≡ p.at - end = length-replicate (p.at - end) 0 in
    let own_is : length own ≡ p.len = own_length p ps text sum in
    let more : end_of p + length rest ≡ max (end_of p) (furthest ps) =
    length-laid (end_of p) ps (drop p.len text) (others_rise end p ps r) (left_over p ps text sum) in
    omega arith

-- what is there before a piece's own bytes, and with them
before_own : (front : List ℕ) (end : ℕ) (p : Piece) (ps : List Piece) → length front ≡ end → rises end (p ∷ ps) ≡ true → length (front ++ replicate (p.at - end) 0) ≡ p.at
before_own front end p ps is r =
    let from : end ≤ p.at = begins end p ps r in
    let gap_is : length (replicate {A = ℕ} (p.at - end) 0) ≡ p.at - end = length-replicate (p.at - end) 0 in
    length-append front (replicate (p.at - end) 0) ∙ (let e : length front + length (replicate {A = ℕ} (p.at - end) 0) ≡ p.at = omega arith in e)

with_own : (front : List ℕ) (end : ℕ) (p : Piece) (ps : List Piece) (own : List ℕ) → length front ≡ end → rises end (p ∷ ps) ≡ true → length own ≡ p.len
    → length ((front ++ replicate (p.at - end) 0) ++ own) ≡ end_of p
with_own front end p ps own is r len =
    let lead : length (front ++ replicate (p.at - end) 0) ≡ p.at = before_own front end p ps is r in
    length-append (front ++ replicate (p.at - end) 0) own ∙ (let e : length (front ++ replicate (p.at - end) 0) + length own ≡ end_of p = omega arith in e)

regroup : (front gap own rest : List ℕ) → front ++ (gap ++ own ++ rest) ≡ front ++ gap ++ own ++ rest
regroup front gap own rest = sym (append_assoc front (gap ++ own) rest) ∙ ap (λ z. z ++ rest) (sym (append_assoc front gap own))

apart : (front gap own rest : List ℕ) → front ++ (gap ++ own ++ rest) ≡ (front ++ gap) ++ (own ++ rest)
apart front gap own rest = regroup front gap own rest ∙ append_assoc (front ++ gap) own rest

-- the pieces hold the text
pub joined-laid : (front : List ℕ) (end : ℕ) (ps : List Piece) (text : List ℕ) → length front ≡ end → rises end ps ≡ true
    → total ps ≡ length text → joined ps (front ++ laid end ps text) ≡ text
joined-laid front end [] text is r sum = sym (nil_from_length text (omega arith))
joined-laid front end (p ∷ ps) text is r sum =
    let gap : List ℕ = replicate (p.at - end) 0 in
    let own = take p.len text in
    let rest = laid (end_of p) ps (drop p.len text) in
    let own_is = own_length p ps text sum in
    let lead : length (front ++ gap) ≡ p.at = before_own front end p ps is r in
    let first : bytes_of p (front ++ (gap ++ own ++ rest)) ≡ own =
    ap (λ z. bytes_of p z) (apart front gap own rest)
    ∙ ap (take p.len) (drop_at (front ++ gap) (own ++ rest) p.at lead) ∙ take_at own rest p.len own_is in
    let others : joined ps (front ++ (gap ++ own ++ rest)) ≡ drop p.len text =
    ap (joined ps) (regroup front gap own rest)
    ∙ joined-laid ((front ++ gap) ++ own) (end_of p) ps (drop p.len text) (with_own front end p ps own is r own_is) (others_rise end p ps r) (left_over p ps text sum) in
    ap (λ z. z ++ joined ps (front ++ (gap ++ own ++ rest))) first ∙ ap (λ z. own ++ z) others ∙ take-append-drop p.len text

-- a place that the first piece covers is in some piece
covered : (x : ℕ) (p : Piece) (ps : List Piece) → in_some x (p ∷ ps) ≡ false → p.at ≤ x → end_of p ≤ x
covered x p ps e from =
    elim (cases_lt x (end_of p)) [
      | inl inside ↦ absurd (false≢true (sym (or_parts (covers x p) (in_some x ps) e).0
          ∙ and_from (leb p.at x) (ltb x (end_of p)) (le-leb p.at x from) (lt-ltb x (end_of p) inside)))
      | inr after ↦ after
    ]

zero_in : (m i : ℕ) → get_or {A = ℕ} (replicate m 0) i 0 ≡ 0
zero_in m i = elim (cases_lt i m) [
  | inl l ↦ get_or-replicate m i 0 0 l
  | inr h ↦ get_or_past (replicate m 0) i 0 (subst (λ n. n ≤ i) (sym (length-replicate m 0)) h)
]

-- a byte that no piece covers is zero, where it is after what was there
zero_after : (front : List ℕ) (end : ℕ) (ps : List Piece) (text : List ℕ) (x : ℕ) → length front ≡ end → rises end ps ≡ true
    → total ps ≡ length text → in_some x ps ≡ false → end ≤ x → get_or (front ++ laid end ps text) x 0 ≡ 0
zero_after front end [] text x is r sum e after = get_or_past (front ++ []) x 0 (let n = length-append front [] in omega arith)
zero_after front end (p ∷ ps) text x is r sum e after =
    let gap : List ℕ = replicate (p.at - end) 0 in
    let own = take p.len text in
    let rest = laid (end_of p) ps (drop p.len text) in
    let own_is = own_length p ps text sum in
    let lead : length (front ++ gap) ≡ p.at = before_own front end p ps is r in
    elim (cases_lt x p.at) [
      | inl early ↦ ap (λ z. get_or z x 0) (apart front gap own rest)
          ∙ get_or_append_left (front ++ gap) (own ++ rest) 0 x (omega arith) ∙ get_or-append_right front gap end x 0 is after ∙ zero_in (p.at - end) (x - end)
      | inr late ↦ ap (λ z. get_or z x 0) (regroup front gap own rest)
          ∙ zero_after ((front ++ gap) ++ own) (end_of p) ps (drop p.len text) x (with_own front end p ps own is r own_is) (others_rise end p ps r) (left_over p ps text sum)
          (or_parts (covers x p) (in_some x ps) e).1 (covered x p ps e late)
    ]

-- a byte that no piece covers is as it was
pub others-laid : (front : List ℕ) (ps : List Piece) (text : List ℕ) (x : ℕ) → rises (length front) ps ≡ true
    → total ps ≡ length text → in_some x ps ≡ false → get_or (front ++ laid (length front) ps text) x 0 ≡ get_or front x 0
others-laid front ps text x r sum e =
    elim (cases_lt x (length front)) [
      | inl early ↦ get_or_append_left front (laid (length front) ps text) 0 x early
      | inr late ↦ zero_after front (length front) ps text x refl r sum e late ∙ sym (get_or_past front x 0 late)
    ]

-- zeros after a list are as nothing there
pub zeros_after : (front : List ℕ) (m x : ℕ) → get_or (front ++ replicate m 0) x 0 ≡ get_or front x 0
zeros_after front m x =
    elim (cases_lt x (length front)) [
      | inl early ↦ get_or_append_left front (replicate m 0) 0 x early
      | inr late ↦ get_or-append_right front (replicate m 0) (length front) x 0 refl late ∙ zero_in m (x - length front) ∙ sym (get_or_past front x 0 late)
    ]
