-- What can be read as markup has the characters of XML alone.
use Rattle.std.proofs.Common.{◌≡◌, ℕ, ◌==◌, Bool, true, false, List, [], ◌∷◌, ap, sym, ◌∙◌, refl, cond, not, nat_le, arith, ◌||◌, ◌&&◌, inl, inr}
use Rattle.std.specs.List.{list_all}
use Rattle.std.proofs.lemmas.Bool.{and_from, and_parts, cases_Bool, leb-true, le-leb, ne_eqb}
use Rattle.ahci_draw.specs.Markup.{Emptied, Ending, Begun, IsClosed, Keyed, Named, Place, Quoted, Reader, Spaced, Text, Unquoted, Valued, Wrong, after, at, after_name, is_character, is_name, is_plain, reads, wrong}

-- a byte that is none of these is none of a tag's
other_than : (b k : ℕ) → is_character b ≡ false → is_character k ≡ true → (b == k) ≡ false
other_than b k other known = ne_eqb b k (λ same. absurd (cc (ap is_character same)))

so_not : (a c : Bool) → (a ≡ true → c ≡ true) → c ≡ false → a ≡ false
so_not true c f other = absurd (cc (f refl))
so_not false c f other = refl

left_of : (a c : Bool) → a ≡ true → (a || c) ≡ true
left_of true c h = refl
left_of false c h = absurd (cc)

first_two : (a b c : Bool) → (a && (b && c)) ≡ true → (a && b) ≡ true
first_two a b c h = and_from a b (and_parts a (b && c) h).0 (and_parts b c (and_parts a (b && c) h).1).0

not_plain : (b : ℕ) → is_character b ≡ false → is_plain b ≡ false
not_plain b other =
    so_not (is_plain b) (is_character b)
    (λ h. left_of (nat_le 32 b && nat_le b 126) (b == 10) (first_two (nat_le 32 b) (nat_le b 126) (not (b == 34) && (not (b == 38) && (not (b == 39) && (not (b == 60) && not (b == 62))))) h)) other

not_or : (a c : Bool) → a ≡ false → c ≡ false → (a || c) ≡ false
not_or true c other none = other
not_or false c other none = none

-- a byte between two others
within : (low high b : ℕ) → (nat_le 32 low && nat_le high 126) ≡ true → (nat_le low b && nat_le b high) ≡ true → is_character b ≡ true
within low high b limits h =
    let from = leb-true 32 low (and_parts (nat_le 32 low) (nat_le high 126) limits).0 in
    let to = leb-true high 126 (and_parts (nat_le 32 low) (nat_le high 126) limits).1 in
    let above = leb-true low b (and_parts (nat_le low b) (nat_le b high) h).0 in
    let under = leb-true b high (and_parts (nat_le low b) (nat_le b high) h).1 in
    left_of (nat_le 32 b && nat_le b 126) (b == 10) (and_from _ _ (le-leb 32 b (omega (arith, from, above))) (le-leb b 126 (omega (arith, to, under))))

not_name : (b : ℕ) → is_character b ≡ false → is_name b ≡ false
not_name b other =
    not_or (nat_le 97 b && nat_le b 122) ((nat_le 65 b && nat_le b 90) || (b == 45)) (so_not _ (is_character b) (within 97 122 b refl) other)
    (not_or (nat_le 65 b && nat_le b 90) (b == 45) (so_not _ (is_character b) (within 65 90 b refl) other) (other_than b 45 other refl))

neither : {X : Type 0} (a : Bool) (x y z : X) → a ≡ false → y ≡ z → cond a x y ≡ z
neither true x y z other h = absurd (cc)
neither false x y z other h = h

wrong_after_name : (name : List ℕ) (opened : List (List ℕ)) (b : ℕ) → is_character b ≡ false → after_name name opened b ≡ wrong
wrong_after_name name opened b other =
    neither (b == 32) _ _ _ (other_than b 32 other refl) (neither (b == 47) _ _ _ (other_than b 47 other refl) (neither (b == 62) _ _ _ (other_than b 62 other refl) refl))

wrong_after : (place : Place) (opened : List (List ℕ)) (b : ℕ) → is_character b ≡ false → after place opened b ≡ wrong
wrong_after Text opened b other =
    neither (b == 60) _ _ _ (other_than b 60 other refl) (neither (is_plain b || (b == 10)) _ _ _ (not_or _ _ (not_plain b other) (other_than b 10 other refl)) refl)
wrong_after Begun opened b other = neither (b == 47) _ _ _ (other_than b 47 other refl) (neither (is_name b) _ _ _ (not_name b other) refl)
wrong_after (Named name) opened b other = neither (is_name b) _ _ _ (not_name b other) (wrong_after_name name opened b other)
wrong_after (Spaced name) opened b other = neither (is_name b) _ _ _ (not_name b other) refl
wrong_after (Keyed name) opened b other = neither (is_name b) _ _ _ (not_name b other) (neither (b == 61) _ _ _ (other_than b 61 other refl) refl)
wrong_after (Valued name) opened b other = neither (b == 39) _ _ _ (other_than b 39 other refl) refl
wrong_after (Quoted name) opened b other = neither (b == 39) _ _ _ (other_than b 39 other refl) (neither (is_plain b) _ _ _ (not_plain b other) refl)
wrong_after (Unquoted name) opened b other = wrong_after_name name opened b other
wrong_after Emptied opened b other = neither (b == 62) _ _ _ (other_than b 62 other refl) refl
wrong_after (Ending name) opened b other = neither (b == 62) _ _ _ (other_than b 62 other refl) (neither (is_name b) _ _ _ (not_name b other) refl)
wrong_after Wrong opened b other = refl

stays_wrong : (text : List ℕ) → reads text wrong ≡ wrong
stays_wrong [] = refl
stays_wrong (b ∷ text) = stays_wrong text

wrong_never : wrong ≡ at Text [] → ⊥
wrong_never h = let place = ap (λ (r : Reader). r.place) h in absurd (cc place)

characters : (text : List ℕ) (r : Reader) → reads text r ≡ at Text [] → list_all is_character text ≡ true
characters [] r h = refl
characters (b ∷ text) r h =
    elim (cases_Bool (is_character b)) [
      | inl known ↦ and_from _ _ known (characters text (after r.place r.opened b) h)
      | inr other ↦ absurd (wrong_never (sym (stays_wrong text) ∙ sym (ap (reads text) (wrong_after r.place r.opened b other)) ∙ h))
    ]

pub closed_characters : (text : List ℕ) → IsClosed text → list_all is_character text ≡ true
closed_characters text h = characters text (at Text []) h
