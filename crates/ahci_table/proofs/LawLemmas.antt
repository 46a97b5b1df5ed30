-- The laws of windows.
use Rattle.std.proofs.Common.{◌≡◌, ℕ, ◌+◌, ◌-◌, ◌<◌, ◌≤◌, Bool, true, false, leb, ltb, ◌⊎◌, List, [], ◌∷◌, ◌++◌, length, take, drop, get_or, ap, sym, refl, subst, ◌∙◌, arith, inl, inr, Ok, Err}
use Rattle.std.proofs.lemmas.Bool.{cases_lt, and_parts, or_cases, false≢true, leb-true, ltb-true}
use Rattle.std.proofs.lemmas.List.{append_assoc, drop-drop, drop_at, take_at, get_or-take, get_or-drop, ext_get_or, length-take-le}
use Rattle.std.proofs.lemmas.Slice.{between-put_mid}
use borrow.Rule.Slice.PartMut.{put_mid}
use Rattle.ahci_table.specs.declared.fault.TableFault.{TableFault}
use Rattle.ahci_table.specs.declared.fault.TableFault.TheVariants.{BadHeader, BadCommand, WrongTag, BadList}
use Rattle.ahci_table.specs.declared.piece.Piece.{Piece}
use Rattle.ahci_table.specs.Fit.{Breaks, IsFit}
use Rattle.ahci_table.specs.Laws.{IsTakenAgain, HasWholeText, GivesBack, Commutes, IsBeside}
use Rattle.ahci_table.specs.Piece.{covers, end_of}
use Rattle.ahci_table.specs.Prdt.{pieces}
use Rattle.ahci_table.specs.Scatter.{IsScattered, in_some}
use Rattle.ahci_table.specs.Text.{bytes_of, joined, replaced, text}
use Rattle.ahci_table.specs.Window.{WindowState}
use Rattle.ahci_table.proofs.FitLemmas.{carries_built, fit_built, queued_back}
use Rattle.ahci_table.proofs.PartLemmas.{length-put, put_outside}
use Rattle.ahci_table.proofs.RefusalLemmas.{free_from}
use Rattle.ahci_table.proofs.RunLemmas.{Inside, inside_from, length-bytes_of}
use Rattle.ahci_table.proofs.WindowLemmas.{length-text, pieces_inside}

-- a window that is fit breaks no rule
not_broken : (w : WindowState) (fault : TableFault) → IsFit w → Breaks w fault → ⊥
not_broken w BadHeader f b = b f.header
not_broken w BadCommand f b = b.1 f.command
not_broken w WrongTag f b = b.2 f.tag
not_broken w BadList f b = b.3 f.listed

pub taken_again : IsTakenAgain
taken_again tag work fua ps w (Ok c) low none b h =
    let free = free_from work ps none in
    let carries = carries_built tag work fua ps w low free b in
    (fit_built tag work fua ps w low free b, carries, (h.1 ∙ queued_back tag work fua ps w low free b, h.2 ∙ carries.pieces_are))
taken_again tag work fua ps w (Err fault) low none b h = absurd (not_broken w fault (fit_built tag work fua ps w low (free_from work ps none) b) h)

pub whole_text : HasWholeText
whole_text w f = length-text w f

pub gives_back : GivesBack
gives_back old new offset from within s =
    let t = text old in
    let front : length (take offset t) ≡ offset = length-take-le offset t (omega arith) in
    let rest = drop (offset + length from) t in
    ap (λ z. take (length from) (drop offset z)) (s.text_is ∙ append_assoc (take offset t) from rest)
    ∙ ap (take (length from)) (drop_at (take offset t) (from ++ rest) offset front)
    ∙ take_at from rest (length from) refl

-- a text that is replaced, byte by byte
replaced-put : (i : ℕ) (ys t : List ℕ) → replaced i ys t ≡ put_mid i (length ys) t ys
replaced-put i ys t = append_assoc (take i t) ys (drop (i + length ys) t) ∙ ap (λ z. take i t ++ (ys ++ z)) (sym (drop-drop (length ys) i t))

length-replaced : (i : ℕ) (ys t : List ℕ) → i + length ys ≤ length t → length (replaced i ys t) ≡ length t
length-replaced i ys t h = ap length (replaced-put i ys t) ∙ length-put i (length ys) t ys refl h

outside : (i : ℕ) (ys t : List ℕ) (x : ℕ) → i + length ys ≤ length t → (x < i) ⊎ (i + length ys ≤ x) → get_or (replaced i ys t) x 0 ≡ get_or t x 0
outside i ys t x h o = ap (λ z. get_or z x 0) (replaced-put i ys t) ∙ put_outside i (length ys) t ys x 0 refl h o

inside : (i : ℕ) (ys t : List ℕ) (x : ℕ) → i + length ys ≤ length t → i ≤ x → x < i + length ys → get_or (replaced i ys t) x 0 ≡ get_or ys (x - i) 0
inside i ys t x h low high =
    let n = length ys in
    let p = put_mid i n t ys in
    let same : take (i + n - i) (drop i p) ≡ ys = between-put_mid i n t ys (i + n) (omega arith) (omega arith) in
    let place : i + (x - i) ≡ x = omega arith in
    ap (λ z. get_or z x 0) (replaced-put i ys t)
    ∙ ap (λ y. get_or p y 0) (sym place)
    ∙ sym (get_or-drop i p (x - i) 0)
    ∙ sym (get_or-take (i + n - i) (drop i p) (x - i) 0 (omega arith))
    ∙ ap (λ z. get_or z (x - i) 0) same

-- where a place lies to a range
data Lies (i n x : ℕ) : Type 0 where
  Within : i ≤ x → x < i + n → Lies i n x
  Beyond : (x < i) ⊎ (i + n ≤ x) → Lies i n x

lies : (i n x : ℕ) → Lies i n x
lies i n x = elim (cases_lt x i) [ inl l ↦ Beyond (inl l) | inr f ↦ elim (cases_lt x (i + n)) [ inl u ↦ Within f u | inr b ↦ Beyond (inr b) ] ]

replaced_twice : (i j : ℕ) (xs ys t : List ℕ) → i + length xs ≤ length t → j + length ys ≤ length t → IsBeside i xs j ys → replaced j ys (replaced i xs t) ≡ replaced i xs (replaced j ys t)
replaced_twice i j xs ys t h k beside =
    let li = length-replaced i xs t h in
    let lj = length-replaced j ys t k in
    let hi : i + length xs ≤ length (replaced j ys t) = omega arith in
    let kj : j + length ys ≤ length (replaced i xs t) = omega arith in
    ext_get_or 0 (replaced j ys (replaced i xs t)) (replaced i xs (replaced j ys t)) (length-replaced j ys (replaced i xs t) kj ∙ li ∙ sym (length-replaced i xs (replaced j ys t) hi ∙ lj))
    (λ x l. each x (lies i (length xs) x) (lies j (length ys) x) hi kj beside)
  where
    apart : (x : ℕ) → i ≤ x → x < i + length xs → IsBeside i xs j ys → (x < j) ⊎ (j + length ys ≤ x)
    apart x low high (inl a) = inl (omega arith)
    apart x low high (inr b) = inr (omega arith)

    apart' : (x : ℕ) → j ≤ x → x < j + length ys → IsBeside i xs j ys → (x < i) ⊎ (i + length xs ≤ x)
    apart' x low high (inl a) = inr (omega arith)
    apart' x low high (inr b) = inl (omega arith)

    each : (x : ℕ) → Lies i (length xs) x → Lies j (length ys) x → i + length xs ≤ length (replaced j ys t) → j + length ys ≤ length (replaced i xs t) → IsBeside i xs j ys
        → get_or (replaced j ys (replaced i xs t)) x 0 ≡ get_or (replaced i xs (replaced j ys t)) x 0
    each x (Within low high) q hi kj b =
        outside j ys (replaced i xs t) x kj (apart x low high b) ∙ inside i xs t x h low high ∙ sym (inside i xs (replaced j ys t) x hi low high)
    each x (Beyond o) (Within low high) hi kj b =
        inside j ys (replaced i xs t) x kj low high ∙ sym (outside i xs (replaced j ys t) x hi (apart' x low high b) ∙ inside j ys t x k low high)
    each x (Beyond o) (Beyond p) hi kj b =
        outside j ys (replaced i xs t) x kj p ∙ outside i xs t x h o ∙ sym (outside i xs (replaced j ys t) x hi o ∙ outside j ys t x k p)

-- bytes with one text agree in each piece
joined_at : (ps : List Piece) (xs ys : List ℕ) (x : ℕ) → length xs ≡ length ys → Inside (length xs) ps → joined ps xs ≡ joined ps ys → in_some x ps ≡ true → get_or xs x 0 ≡ get_or ys x 0
joined_at [] xs ys x len h same e = absurd (false≢true e)
joined_at (p ∷ ps) xs ys x len h same e =
    let inside_x : end_of p ≤ length xs = h.0 in
    let a : length (bytes_of p xs) ≡ p.len = length-bytes_of p xs inside_x in
    let b : length (bytes_of p ys) ≡ p.len = length-bytes_of p ys (omega arith) in
    let own : bytes_of p xs ≡ bytes_of p ys = sym (take_at (bytes_of p xs) (joined ps xs) p.len a) ∙ ap (take p.len) same ∙ take_at (bytes_of p ys) (joined ps ys) p.len b in
    let rest : joined ps xs ≡ joined ps ys = sym (drop_at (bytes_of p xs) (joined ps xs) p.len a) ∙ ap (drop p.len) same ∙ drop_at (bytes_of p ys) (joined ps ys) p.len b in
    decide own (λ c. joined_at ps xs ys x len h.1 rest c) (or_cases (covers x p) (in_some x ps) e)
  where
    decide : bytes_of p xs ≡ bytes_of p ys → (in_some x ps ≡ true → get_or xs x 0 ≡ get_or ys x 0) → (covers x p ≡ true) ⊎ (in_some x ps ≡ true) → get_or xs x 0 ≡ get_or ys x 0
    decide own rest (inl c) =
        let low = leb-true p.at x ((and_parts (leb p.at x) (ltb x (end_of p)) c).0) in
        let high = ltb-true x (end_of p) ((and_parts (leb p.at x) (ltb x (end_of p)) c).1) in
        let place : p.at + (x - p.at) ≡ x = omega arith in
        let at : (zs : List ℕ) → get_or (bytes_of p zs) (x - p.at) 0 ≡ get_or zs x 0 =
        λ zs. get_or-take p.len (drop p.at zs) (x - p.at) 0 (omega arith) ∙ get_or-drop p.at zs (x - p.at) 0 ∙ ap (λ y. get_or zs y 0) place in
        sym (at xs) ∙ ap (λ z. get_or z (x - p.at) 0) own ∙ at ys
    decide own rest (inr c) = rest c

same_window : (a b : WindowState) → a.tag ≡ b.tag → a.header ≡ b.header → a.bytes ≡ b.bytes → a ≡ b
same_window a b e f g = ap (λ t. with_parts t a.header a.bytes) e ∙ ap (λ h. with_parts b.tag h a.bytes) f ∙ ap (λ z. with_parts b.tag b.header z) g
  where
    with_parts : ℕ → List ℕ → List ℕ → WindowState
    with_parts t h z = record { tag = t; header = h; bytes = z }

pub commutes : Commutes
commutes w a b ab ba i j xs ys f h k beside sa sab sb sba =
    let ps = pieces w in
    let list_ab : pieces ab ≡ ps = sab.pieces_are ∙ sa.pieces_are in
    let list_ba : pieces ba ≡ ps = sba.pieces_are ∙ sb.pieces_are in
    let len_ab : length ab.bytes ≡ length w.bytes = sab.len_is ∙ sa.len_is in
    let len_ba : length ba.bytes ≡ length w.bytes = sba.len_is ∙ sb.len_is in
    let text_ab : joined ps ab.bytes ≡ replaced j ys (replaced i xs (text w)) = ap (λ l. joined l ab.bytes) (sym list_ab) ∙ sab.text_is ∙ ap (replaced j ys) sa.text_is in
    let text_ba : joined ps ba.bytes ≡ replaced i xs (replaced j ys (text w)) = ap (λ l. joined l ba.bytes) (sym list_ba) ∙ sba.text_is ∙ ap (replaced i xs) sb.text_is in
    let same : joined ps ab.bytes ≡ joined ps ba.bytes = text_ab ∙ replaced_twice i j xs ys (text w) h k beside ∙ sym text_ba in
    let within : Inside (length ab.bytes) ps = subst (λ n. Inside n ps) (sym len_ab) (inside_from (length w.bytes) ps (pieces_inside w f.listed.entries)) in
    let each : (x : ℕ) → x < length ab.bytes → get_or ab.bytes x 0 ≡ get_or ba.bytes x 0 = λ x l. decide x (in_some x ps) refl same within (len_ab ∙ sym len_ba) sa sab sb sba in
    same_window ab ba (sab.tag_is ∙ sa.tag_is ∙ sym (sba.tag_is ∙ sb.tag_is)) (sab.header_is ∙ sa.header_is ∙ sym (sba.header_is ∙ sb.header_is))
    (ext_get_or 0 ab.bytes ba.bytes (len_ab ∙ sym len_ba) each)
  where
    decide : (x : ℕ) (c : Bool) → in_some x (pieces w) ≡ c → joined (pieces w) ab.bytes ≡ joined (pieces w) ba.bytes → Inside (length ab.bytes) (pieces w) → length ab.bytes ≡ length ba.bytes
        → IsScattered w i xs a → IsScattered a j ys ab → IsScattered w j ys b → IsScattered b i xs ba → get_or ab.bytes x 0 ≡ get_or ba.bytes x 0
    decide x true e same within len sa sab sb sba = joined_at (pieces w) ab.bytes ba.bytes x len within same e
    decide x false e same within len sa sab sb sba =
        let oa : in_some x (pieces a) ≡ false = ap (in_some x) sa.pieces_are ∙ e in
        let ob : in_some x (pieces b) ≡ false = ap (in_some x) sb.pieces_are ∙ e in
        sab.others x oa ∙ sa.others x e ∙ sym (sba.others x ob ∙ sb.others x e)
