-- Texts that can be read as markup, piece by piece.
use Rattle.std.proofs.Common.{◌≡◌, ℕ, suc, zero, ◌/◌, ◌%◌, ◌<◌, ◌==◌, Bool, true, false, List, [], ◌∷◌, ◌++◌, ap, ◌∙◌, refl, arith, nat_le, not, ◌&&◌, ◌||◌, cond}
use Rattle.std.specs.Fmt.{decimal, digit_glyph, digits, digits_onto}
use Rattle.std.specs.List.{flat_map, list_all}
use Rattle.std.proofs.lemmas.Bool.{and_from, and_parts, not-true}
use Rattle.streams.specs.Text.{hex_of}
use Rattle.ahci_draw.specs.Markup.{Reader, Text, Quoted, after, at, is_plain, reads, wrong}

-- ---- plain bytes

-- a plain byte is none of those that mean more
fifth_and_sixth : (a b c d e f g : Bool) → (a && (b && (c && (d && (e && (f && g)))))) ≡ true → (e ≡ true) × (f ≡ true)
fifth_and_sixth a b c d e f g h =
    let from_b = (and_parts a (b && (c && (d && (e && (f && g))))) h).1 in
    let from_c = (and_parts b (c && (d && (e && (f && g)))) from_b).1 in
    let from_d = (and_parts c (d && (e && (f && g))) from_c).1 in
    let from_e = (and_parts d (e && (f && g)) from_d).1 in
    ((and_parts e (f && g) from_e).0, (and_parts f g (and_parts e (f && g) from_e).1).0)

not_quote : (b : ℕ) → is_plain b ≡ true → (b == 39) ≡ false
not_quote b h =
    not-true (b == 39) (fifth_and_sixth (nat_le 32 b) (nat_le b 126) (not (b == 34)) (not (b == 38)) (not (b == 39)) (not (b == 60)) (not (b == 62)) h).0

not_tag : (b : ℕ) → is_plain b ≡ true → (b == 60) ≡ false
not_tag b h =
    not-true (b == 60) (fifth_and_sixth (nat_le 32 b) (nat_le b 126) (not (b == 34)) (not (b == 38)) (not (b == 39)) (not (b == 60)) (not (b == 62)) h).1

value_after : (q p : Bool) (name : List ℕ) (opened : List (List ℕ)) (r : Reader) → q ≡ false → p ≡ true
    → cond q r (cond p (at (Quoted name) opened) wrong) ≡ at (Quoted name) opened
value_after true p name opened r hq hp = absurd (cc)
value_after false true name opened r hq hp = refl
value_after false false name opened r hq hp = absurd (cc)

text_after : (q p l : Bool) (opened : List (List ℕ)) (r : Reader) → q ≡ false → p ≡ true → cond q r (cond (p || l) (at Text opened) wrong) ≡ at Text opened
text_after true p l opened r hq hp = absurd (cc)
text_after false true l opened r hq hp = refl
text_after false false l opened r hq hp = absurd (cc)

-- plain bytes leave a reader where it is, in a value and between tags
pub in_value : (text : List ℕ) (name : List ℕ) (opened : List (List ℕ)) → list_all is_plain text ≡ true → reads text (at (Quoted name) opened) ≡ at (Quoted name) opened
in_value [] name opened h = refl
in_value (b ∷ more) name opened h =
    ap (reads more) (value_after (b == 39) (is_plain b) name opened _ (not_quote b (and_parts _ _ h).0) (and_parts _ _ h).0) ∙ in_value more name opened (and_parts _ _ h).1

pub in_text : (text : List ℕ) (opened : List (List ℕ)) → list_all is_plain text ≡ true → reads text (at Text opened) ≡ at Text opened
in_text [] opened h = refl
in_text (b ∷ more) opened h =
    ap (reads more) (text_after (b == 60) (is_plain b) (b == 10) opened _ (not_tag b (and_parts _ _ h).0) (and_parts _ _ h).0) ∙ in_text more opened (and_parts _ _ h).1

-- ---- pieces

pub reads-append : (a b : List ℕ) (r : Reader) → reads (a ++ b) r ≡ reads b (reads a r)
reads-append [] b r = refl
reads-append (x ∷ a) b r = reads-append a b (after r.place r.opened x)

-- a piece that leaves a reader where it is
pub past : (text rest : List ℕ) (r : Reader) → reads text r ≡ r → reads (text ++ rest) r ≡ reads rest r
past text rest r stays = reads-append text rest r ∙ ap (reads rest) stays

-- whatever elements are open, the text opens and closes its own alone
pub record Closes (text : List ℕ) : Type 0 where
  pub whole : (opened : List (List ℕ)) → reads text (at Text opened) ≡ at Text opened

pub closes_none : Closes []
closes_none = record { whole = λ opened. refl }

pub closes_both : (a b : List ℕ) → Closes a → Closes b → Closes (a ++ b)
closes_both a b p q = record { whole = λ opened. past a b (at Text opened) (p.whole opened) ∙ q.whole opened }

pub closes_all : {X : Type 0} (f : X → List ℕ) (xs : List X) → ((x : X) → Closes (f x)) → Closes (flat_map f xs)
closes_all f [] each = closes_none
closes_all f (x ∷ xs) each = closes_both (f x) (flat_map f xs) (each x) (closes_all f xs each)

pub closes_if : (b : Bool) (a : List ℕ) (c : List ℕ) → Closes a → Closes c → Closes (cond b a c)
closes_if true a c p q = p
closes_if false a c p q = q

-- ---- digits

plain_glyph : (d : ℕ) → d < 16 → is_plain (digit_glyph false d) ≡ true
plain_glyph zero low = refl
plain_glyph (suc zero) low = refl
plain_glyph (suc (suc zero)) low = refl
plain_glyph (suc (suc (suc zero))) low = refl
plain_glyph (suc (suc (suc (suc zero)))) low = refl
plain_glyph (suc (suc (suc (suc (suc zero))))) low = refl
plain_glyph (suc (suc (suc (suc (suc (suc zero)))))) low = refl
plain_glyph (suc (suc (suc (suc (suc (suc (suc zero))))))) low = refl
plain_glyph (suc (suc (suc (suc (suc (suc (suc (suc zero)))))))) low = refl
plain_glyph (suc (suc (suc (suc (suc (suc (suc (suc (suc zero))))))))) low = refl
plain_glyph (suc (suc (suc (suc (suc (suc (suc (suc (suc (suc zero)))))))))) low = refl
plain_glyph (suc (suc (suc (suc (suc (suc (suc (suc (suc (suc (suc zero))))))))))) low = refl
plain_glyph (suc (suc (suc (suc (suc (suc (suc (suc (suc (suc (suc (suc zero)))))))))))) low = refl
plain_glyph (suc (suc (suc (suc (suc (suc (suc (suc (suc (suc (suc (suc (suc zero))))))))))))) low = refl
plain_glyph (suc (suc (suc (suc (suc (suc (suc (suc (suc (suc (suc (suc (suc (suc zero)))))))))))))) low = refl
plain_glyph (suc (suc (suc (suc (suc (suc (suc (suc (suc (suc (suc (suc (suc (suc (suc zero))))))))))))))) low = refl
plain_glyph (suc (suc (suc (suc (suc (suc (suc (suc (suc (suc (suc (suc (suc (suc (suc (suc d)))))))))))))))) low = absurd (omega (arith, low))

if_both : (b : Bool) (xs ys : List ℕ) → list_all is_plain xs ≡ true → list_all is_plain ys ≡ true → list_all is_plain (cond b xs ys) ≡ true
if_both true xs ys p q = p
if_both false xs ys p q = q

plain_onto : (k n : ℕ) (acc : List ℕ) → list_all is_plain acc ≡ true → list_all is_plain (digits_onto k 10 false n acc) ≡ true
plain_onto zero n acc h = h
plain_onto (suc k) n acc h =
    let glyph = plain_glyph (n % 10) (omega arith) in
    if_both (n / 10 == 0) (digit_glyph false (n % 10) ∷ acc) (digits_onto k 10 false (n / 10) (digit_glyph false (n % 10) ∷ acc)) (and_from _ _ glyph h)
    (plain_onto k (n / 10) (digit_glyph false (n % 10) ∷ acc) (and_from _ _ glyph h))

pub plain_decimal : (n : ℕ) → list_all is_plain (decimal n) ≡ true
unfolding digits
plain_decimal n = plain_onto 64 n [] refl

pub plain_append : (xs ys : List ℕ) → list_all is_plain xs ≡ true → list_all is_plain ys ≡ true → list_all is_plain (xs ++ ys) ≡ true
plain_append [] ys p q = q
plain_append (x ∷ xs) ys p q = and_from _ _ (and_parts _ _ p).0 (plain_append xs ys (and_parts _ _ p).1 q)

pub plain_hex : (k n : ℕ) → list_all is_plain (hex_of k n) ≡ true
plain_hex zero n = refl
plain_hex (suc k) n =
    plain_append (hex_of k (n / 16)) (digit_glyph false (n % 16) ∷ []) (plain_hex k (n / 16)) (and_from _ _ (plain_glyph (n % 16) (omega arith)) refl)

-- a number in a value, and in a text
pub number_in_value : (n : ℕ) (rest : List ℕ) (name : List ℕ) (opened : List (List ℕ)) → reads (decimal n ++ rest) (at (Quoted name) opened) ≡ reads rest (at (Quoted name) opened)
number_in_value n rest name opened = past (decimal n) rest (at (Quoted name) opened) (in_value (decimal n) name opened (plain_decimal n))

pub number_in_text : (n : ℕ) (rest : List ℕ) (opened : List (List ℕ)) → reads (decimal n ++ rest) (at Text opened) ≡ reads rest (at Text opened)
number_in_text n rest opened = past (decimal n) rest (at Text opened) (in_text (decimal n) opened (plain_decimal n))

pub plain_in_value : (t rest : List ℕ) (name : List ℕ) (opened : List (List ℕ)) → list_all is_plain t ≡ true → reads (t ++ rest) (at (Quoted name) opened) ≡ reads rest (at (Quoted name) opened)
plain_in_value t rest name opened h = past t rest (at (Quoted name) opened) (in_value t name opened h)

pub plain_in_text : (t rest : List ℕ) (opened : List (List ℕ)) → list_all is_plain t ≡ true → reads (t ++ rest) (at Text opened) ≡ reads rest (at Text opened)
plain_in_text t rest opened h = past t rest (at Text opened) (in_text t opened h)
