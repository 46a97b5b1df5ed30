-- Parts of lists of bytes: fronts and rests of two lists in a row, and what copying over a part leaves.
use Rattle.std.proofs.Common.{◌≡◌, ℕ, zero, suc, ◌+◌, ◌-◌, ◌<◌, ◌≤◌, min, ◌⊎◌, List, [], ◌∷◌, ◌++◌, length, take, drop, get_or, ap, sym, refl, ◌∙◌, arith, inl, inr}
use Rattle.std.proofs.lemmas.List.{take_min, drop_min, append_assoc, append-nil, length-take, length-drop, length-append, length-take-le, take-append-drop}
use Rattle.std.proofs.lemmas.List.{take-append-le, drop-append-le, take-take, drop-take, drop-drop, take_all, drop_all, get_or-take, get_or-drop, ext_get_or}
use Rattle.std.proofs.lemmas.Bool.{cases_lt}
use Rattle.std.proofs.lemmas.Slice.{take-put_mid_below, drop-put_mid}
use borrow.Rule.Slice.PartMut.{put_mid}
use Rattle.ahci_table.specs.Text.{replaced}

-- a front and a rest of two lists in a row
pub take-append : (n : ℕ) (xs ys : List ℕ) → take n (xs ++ ys) ≡ take n xs ++ take (n - length xs) ys
take-append zero [] ys = refl
take-append (suc n) [] ys = ap (λ k. take k ys) (let e : suc n ≡ suc n - 0 = omega arith in e)
take-append zero (x ∷ xs) ys = ap (λ k. take k ys) (let e : 0 ≡ 0 - suc (length xs) = omega arith in e)
take-append (suc n) (x ∷ xs) ys = ap (λ zs. x ∷ zs) (take-append n xs ys) ∙ ap (λ k. (x ∷ take n xs) ++ take k ys) (let e : n - length xs ≡ suc n - suc (length xs) = omega arith in e)

pub drop-append : (n : ℕ) (xs ys : List ℕ) → drop n (xs ++ ys) ≡ drop n xs ++ drop (n - length xs) ys
drop-append zero [] ys = refl
drop-append (suc n) [] ys = ap (λ k. drop k ys) (let e : suc n ≡ suc n - 0 = omega arith in e)
drop-append zero (x ∷ xs) ys = ap (λ k. (x ∷ xs) ++ drop k ys) (let e : 0 ≡ 0 - suc (length xs) = omega arith in e)
drop-append (suc n) (x ∷ xs) ys = drop-append n xs ys ∙ ap (λ k. drop n xs ++ drop k ys) (let e : n - length xs ≡ suc n - suc (length xs) = omega arith in e)

-- a part of two lists in a row: what lies in the first, and then the rest
pub part-append : (m skip lead count : ℕ) (xs ys : List ℕ) → lead ≡ min skip (length xs) → count ≡ min (length xs - lead) m
    → take m (drop skip (xs ++ ys)) ≡ take count (drop lead xs) ++ take (m - count) (drop (skip - lead) ys)
part-append m skip lead count xs ys l c =
    let same : drop skip xs ≡ drop lead xs = sym (drop_min skip xs) ∙ ap (λ k. drop k xs) (sym l) in
    let len : length (drop lead xs) ≡ length xs - lead = length-drop lead xs in
    let cut : count ≡ min m (length (drop lead xs)) = omega arith in
    ap (take m) (drop-append skip xs ys)
    ∙ ap (λ zs. take m (zs ++ drop (skip - length xs) ys)) same
    ∙ take-append m (drop lead xs) (drop (skip - length xs) ys)
    ∙ ap (λ zs. zs ++ take (m - length (drop lead xs)) (drop (skip - length xs) ys)) (sym (take_min m (drop lead xs)) ∙ ap (λ k. take k (drop lead xs)) (sym cut))
    ∙ ap (λ k. take count (drop lead xs) ++ take k (drop (skip - length xs) ys)) (let e : m - length (drop lead xs) ≡ m - count = omega arith in e)
    ∙ ap (λ k. take count (drop lead xs) ++ take (m - count) (drop k ys)) (let e : skip - length xs ≡ skip - lead = omega arith in e)

-- a text of two lists in a row with some bytes replaced: all in the first, in both, or all in the second
replaced_left : (skip : ℕ) (from xs ys : List ℕ) → skip + length from ≤ length xs → replaced skip from (xs ++ ys) ≡ replaced skip from xs ++ ys
replaced_left skip from xs ys h =
    let n = skip + length from in
    ap (λ z. z ++ from ++ drop n (xs ++ ys)) (take-append-le skip xs ys (omega arith))
    ∙ ap (λ z. take skip xs ++ from ++ z) (drop-append-le n xs ys h)
    ∙ sym (append_assoc (take skip xs ++ from) (drop n xs) ys)

replaced_right : (skip : ℕ) (from xs ys : List ℕ) → length xs ≤ skip → replaced skip from (xs ++ ys) ≡ xs ++ replaced (skip - length xs) from ys
replaced_right skip from xs ys h =
    let n = skip + length from in
    let rest = skip - length xs in
    let a : take skip (xs ++ ys) ≡ xs ++ take rest ys = take-append skip xs ys ∙ ap (λ z. z ++ take rest ys) (take_all skip xs h) in
    let b : drop n (xs ++ ys) ≡ drop (rest + length from) ys = drop-append n xs ys
    ∙ ap (λ z. z ++ drop (n - length xs) ys) (drop_all n xs (omega arith))
    ∙ ap (λ k. drop k ys) (let e : n - length xs ≡ rest + length from = omega arith in e) in
    ap (λ z. z ++ from ++ drop n (xs ++ ys)) a
    ∙ ap (λ z. (xs ++ take rest ys) ++ from ++ z) b
    ∙ append_assoc (xs ++ take rest ys) from (drop (rest + length from) ys)
    ∙ append_assoc xs (take rest ys) (from ++ drop (rest + length from) ys)
    ∙ ap (λ z. xs ++ z) (sym (append_assoc (take rest ys) from (drop (rest + length from) ys)))

replaced_across : (skip count : ℕ) (from xs ys : List ℕ) → skip + count ≡ length xs → count ≤ length from
    → replaced skip from (xs ++ ys) ≡ replaced skip (take count from) xs ++ replaced 0 (drop count from) ys
replaced_across skip count from xs ys e h =
    let n = skip + length from in
    let cut : length (take count from) ≡ count = length-take-le count from h in
    let left : length (drop count from) ≡ length from - count = length-drop count from in
    let a : drop n (xs ++ ys) ≡ drop (length from - count) ys = drop-append n xs ys
    ∙ ap (λ z. z ++ drop (n - length xs) ys) (drop_all n xs (omega arith))
    ∙ ap (λ k. drop k ys) (let e : n - length xs ≡ length from - count = omega arith in e) in
    let b : drop (skip + length (take count from)) xs ≡ [] = drop_all (skip + length (take count from)) xs (omega arith) in
    let c : drop (0 + length (drop count from)) ys ≡ drop (length from - count) ys = ap (λ k. drop k ys) (let e : 0 + length (drop count from) ≡ length from - count = omega arith in e) in
    let rest = drop (length from - count) ys in
    ap (λ z. z ++ from ++ drop n (xs ++ ys)) (take-append-le skip xs ys (omega arith))
    ∙ ap (λ z. take skip xs ++ from ++ z) a
    ∙ ap (λ z. take skip xs ++ z ++ rest) (sym (take-append-drop count from))
    ∙ ap (λ z. z ++ rest) (sym (append_assoc (take skip xs) (take count from) (drop count from)))
    ∙ append_assoc (take skip xs ++ take count from) (drop count from) rest
    ∙ ap (λ z. z ++ (drop count from ++ rest)) (sym (append-nil (take skip xs ++ take count from)) ∙ ap (λ z. take skip xs ++ take count from ++ z) (sym b))
    ∙ ap (λ z. replaced skip (take count from) xs ++ (drop count from ++ z)) (sym c)

-- both parts of such a text, whichever bytes are replaced
pub replaced-append : (skip lead count : ℕ) (from xs ys : List ℕ) → lead ≡ min skip (length xs) → count ≡ min (length xs - lead) (length from)
    → replaced skip from (xs ++ ys) ≡ replaced lead (take count from) xs ++ replaced (skip - lead) (drop count from) ys
replaced-append skip lead count from xs ys l c =
    elim (cases_lt skip (length xs)) [
      | inl begins ↦ elim (cases_lt (length from) (length xs - skip)) [
        | inl ends ↦
            let here : lead ≡ skip = omega arith in
            let all : take count from ≡ from = take_all count from (omega arith) in
            let none : drop count from ≡ [] = drop_all count from (omega arith) in
            let zero_left : skip - lead ≡ 0 = omega arith in
            replaced_left skip from xs ys (omega arith)
            ∙ sym (ap (λ k. replaced k (take count from) xs ++ replaced (skip - lead) (drop count from) ys) here
            ∙ ap (λ z. replaced skip z xs ++ replaced (skip - lead) (drop count from) ys) all
            ∙ ap (λ k. replaced skip from xs ++ replaced k (drop count from) ys) zero_left
            ∙ ap (λ z. replaced skip from xs ++ replaced 0 z ys) none)
        | inr goes_on ↦
            let here : lead ≡ skip = omega arith in
            let zero_left : skip - lead ≡ 0 = omega arith in
            replaced_across skip count from xs ys (omega arith) (omega arith)
            ∙ sym (ap (λ k. replaced k (take count from) xs ++ replaced (skip - lead) (drop count from) ys) here
            ∙ ap (λ k. replaced skip (take count from) xs ++ replaced k (drop count from) ys) zero_left)
      ]
      | inr after ↦
          let end : lead ≡ length xs = omega arith in
          let none : count ≡ 0 = omega arith in
          replaced_right skip from xs ys after
          ∙ sym (ap (λ k. replaced lead (take k from) xs ++ replaced (skip - lead) (drop k from) ys) none
          ∙ ap (λ k. replaced k [] xs ++ replaced (skip - k) from ys) end
          ∙ ap (λ z. z ++ replaced (skip - length xs) from ys) (whole xs))
    ]
  where
    whole : (zs : List ℕ) → replaced (length zs) [] zs ≡ zs
    whole zs = ap (λ k. take (length zs) zs ++ [] ++ drop k zs) (let e : length zs + 0 ≡ length zs = omega arith in e)
        ∙ ap (λ z. z ++ drop (length zs) zs) (append-nil (take (length zs) zs))
        ∙ take-append-drop (length zs) zs

-- copying over a part of a part: the part is a text with these bytes replaced
pub part-put_mid : (at len lead count : ℕ) (xs ys : List ℕ) → length ys ≡ count → lead + count ≤ len → at + len ≤ length xs
    → take len (drop at (put_mid (at + lead) count xs ys)) ≡ replaced lead ys (take len (drop at xs))
part-put_mid at len lead count xs ys c within inside =
    let part = drop at xs in
    let last = len - (lead + count) in
    let rest = drop count (drop (at + lead) xs) in
    let front_len : length (take (at + lead) xs) ≡ at + lead = length-take-le (at + lead) xs (omega arith) in
    let part_len : length part ≡ length xs - at = length-drop at xs in
    let lead_len : length (take lead part) ≡ lead = length-take-le lead part (omega arith) in
    let rest_is : rest ≡ drop (lead + count) part = drop-drop count (at + lead) xs
    ∙ ap (λ k. drop k xs) (let e : at + lead + count ≡ at + (lead + count) = omega arith in e) ∙ sym (drop-drop (lead + count) at xs) in
    let a : drop at (put_mid (at + lead) count xs ys) ≡ take lead part ++ (ys ++ rest) =
    drop-append-le at (take (at + lead) xs) (ys ++ rest) (omega arith) ∙ ap (λ z. z ++ (ys ++ rest)) (drop-take at lead xs) in
    let b : take len (take lead part ++ (ys ++ rest)) ≡ take lead part ++ take (len - lead) (ys ++ rest) =
    take-append len (take lead part) (ys ++ rest)
    ∙ ap (λ z. z ++ take (len - length (take lead part)) (ys ++ rest)) (take_all len (take lead part) (omega arith))
    ∙ ap (λ k. take lead part ++ take (len - k) (ys ++ rest)) lead_len in
    let d : take (len - lead) (ys ++ rest) ≡ ys ++ take last rest =
    take-append (len - lead) ys rest
    ∙ ap (λ z. z ++ take (len - lead - length ys) rest) (take_all (len - lead) ys (omega arith))
    ∙ ap (λ k. ys ++ take k rest) (let e : len - lead - length ys ≡ last = omega arith in e) in
    let front : take lead (take len part) ≡ take lead part = take-take lead len part (omega arith) in
    let back : drop (lead + length ys) (take len part) ≡ take last (drop (lead + count) part) =
    ap (λ k. drop (lead + k) (take len part)) c
    ∙ ap (λ k. drop (lead + count) (take k part)) (let e : len ≡ lead + count + last = omega arith in e)
    ∙ drop-take (lead + count) last part in
    ap (take len) a ∙ b ∙ ap (λ z. take lead part ++ z) d
    ∙ ap (λ z. take lead part ++ (ys ++ take last z)) rest_is
    ∙ sym (append_assoc (take lead part) ys (take last (drop (lead + count) part)))
    ∙ sym (ap (λ z. z ++ ys ++ drop (lead + length ys) (take len part)) front ∙ ap (λ z. take lead part ++ ys ++ z) back)

-- a byte that isn't in the part stays
pub put_outside : (a k : ℕ) (xs ys : List ℕ) (x d : ℕ) → length ys ≡ k → a + k ≤ length xs → (x < a) ⊎ (a + k ≤ x) → get_or (put_mid a k xs ys) x d ≡ get_or xs x d
put_outside a k xs ys x d len fits (inl below) =
    sym (get_or-take a (put_mid a k xs ys) x d below)
    ∙ ap (λ z. get_or z x d) (take-put_mid_below a k xs ys a (omega arith) (omega arith))
    ∙ get_or-take a xs x d below
put_outside a k xs ys x d len fits (inr after) =
    let e : a + k + (x - (a + k)) ≡ x = omega arith in
    ap (λ i. get_or (put_mid a k xs ys) i d) (sym e)
    ∙ sym (get_or-drop (a + k) (put_mid a k xs ys) (x - (a + k)) d)
    ∙ ap (λ z. get_or z (x - (a + k)) d) (drop-put_mid a k xs ys (a + k) (omega arith) (omega arith) len)
    ∙ get_or-drop (a + k) xs (x - (a + k)) d
    ∙ ap (λ i. get_or xs i d) e

pub length-put : (a k : ℕ) (xs ys : List ℕ) → length ys ≡ k → a + k ≤ length xs → length (put_mid a k xs ys) ≡ length xs
length-put a k xs ys len fits =
    let one : length (take a xs) ≡ a = length-take-le a xs (omega arith) in
    let two : length (drop k (drop a xs)) ≡ length xs - a - k = length-drop k (drop a xs) ∙ ap (λ n. n - k) (length-drop a xs) in
    length-append (take a xs) (ys ++ drop k (drop a xs)) ∙ ap (λ n. length (take a xs) + n) (length-append ys (drop k (drop a xs)))
    ∙ (let e : length (take a xs) + (length ys + length (drop k (drop a xs))) ≡ length xs = omega arith in e)

-- parts of lists that agree there are equal
pub same_part : (at len : ℕ) (xs ys : List ℕ) → length xs ≡ length ys → ((x : ℕ) → at ≤ x → x < at + len → get_or xs x 0 ≡ get_or ys x 0) → take len (drop at xs) ≡ take len (drop at ys)
same_part at len xs ys same each =
    let a : length (take len (drop at xs)) ≡ min len (length xs - at) = length-take len (drop at xs) ∙ ap (min len) (length-drop at xs) in
    let b : length (take len (drop at ys)) ≡ min len (length ys - at) = length-take len (drop at ys) ∙ ap (min len) (length-drop at ys) in
    ext_get_or 0 (take len (drop at xs)) (take len (drop at ys)) (omega arith)
    (λ i h. get_or-take len (drop at xs) i 0 (omega arith) ∙ get_or-drop at xs i 0 ∙ each (at + i) (omega arith) (omega arith)
    ∙ sym (get_or-take len (drop at ys) i 0 (omega arith) ∙ get_or-drop at ys i 0))
