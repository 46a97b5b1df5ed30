-- A text that grows by a piece for each element of a list.
use Rattle.std.proofs.Common.{◌≡◌, ℕ, ◌+◌, ◌<◌, List, [], ◌∷◌, ◌++◌, length, take, get_or, ap, sym, refl, ◌∙◌, append_assoc, append-nil}
use Rattle.std.specs.List.{flat_map}
use Rattle.std.proofs.lemmas.List.{take_more}
use Rattle.std.proofs.lemmas.Grind.{flat_map-append}

pub more_text : {X Y : Type 0} (f : X → List Y) (old text new : List Y) (xs : List X) (i : ℕ) (d : X) → i < length xs → text ≡ old ++ flat_map f (take i xs)
    → new ≡ text ++ f (get_or xs i d) → new ≡ old ++ flat_map f (take (i + 1) xs)
more_text f old text new xs i d low so_far grown =
    grown ∙ ap (λ t. t ++ f (get_or xs i d)) so_far ∙ append_assoc old (flat_map f (take i xs)) (f (get_or xs i d))
    ∙ ap (λ t. old ++ t) (sym (ap (flat_map f) (take_more xs i d low) ∙ flat_map-append f (take i xs) (get_or xs i d ∷ []) ∙ ap (λ t. flat_map f (take i xs) ++ t) (append-nil (f (get_or xs i d)))))

-- three parts, one after the other
pub three_parts : {X : Type 0} (old one two new a b c d : List X) → one ≡ old ++ a → two ≡ one ++ b → new ≡ two ++ c → c ≡ d → new ≡ old ++ (a ++ (b ++ d))
three_parts old one two new a b c d first second third same =
    third ∙ ap (λ t. two ++ t) same ∙ ap (λ t. t ++ d) (second ∙ ap (λ t. t ++ b) first) ∙ append_assoc (old ++ a) b d ∙ append_assoc old a (b ++ d)

-- four parts
pub four_parts : {X : Type 0} (old one two three new a b c d : List X) → one ≡ old ++ a → two ≡ one ++ b → three ≡ two ++ c → new ≡ three ++ d → new ≡ old ++ (a ++ (b ++ (c ++ d)))
four_parts old one two three new a b c d first second third fourth =
    three_parts old one two new a b (c ++ d) (c ++ d) first second (fourth ∙ ap (λ t. t ++ d) third ∙ append_assoc two c d) refl

-- three parts between two others
pub five_parts : {X : Type 0} (old one two three four new a b c d e : List X) → one ≡ old ++ a → two ≡ one ++ b → three ≡ two ++ c → four ≡ three ++ d → new ≡ four ++ e
    → new ≡ old ++ (a ++ ((b ++ (c ++ d)) ++ e))
five_parts old one two three four new a b c d e first second third fourth fifth =
    three_parts old one four new a (b ++ (c ++ d)) e e first (three_parts one two three four b c d d second third fourth refl) fifth refl

-- a part by another name
pub part_is : {X : Type 0} {new a b : List X} (old : List X) → new ≡ old ++ a → a ≡ b → new ≡ old ++ b
part_is old grown same = grown ∙ ap (λ t. old ++ t) same

-- five parts, one after the other
pub five_in_turn : {X : Type 0} (old one two three four new a b c d e : List X) → one ≡ old ++ a → two ≡ one ++ b → three ≡ two ++ c → four ≡ three ++ d → new ≡ four ++ e
    → new ≡ old ++ (a ++ (b ++ (c ++ (d ++ e))))
five_in_turn old one two three four new a b c d e first second third fourth fifth =
    four_parts old one two three new a b c (d ++ e) first second third (fifth ∙ ap (λ t. t ++ e) fourth ∙ append_assoc three d e)
