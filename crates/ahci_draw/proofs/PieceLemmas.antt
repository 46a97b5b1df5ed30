-- Texts that grow by a piece at a time.
use Rattle.std.proofs.Common.{◌≡◌, ℕ, ◌+◌, ◌-◌, ◌<◌, suc, List, [], ◌∷◌, ◌++◌, Option, Bool, ◌||◌, map, ap, sym, ◌∙◌, append_assoc, append-nil, arith, drop, get_or, length, refl, zero-add}
use Rattle.std.specs.List.{flat_map, list_any, range_with_len}
use Rattle.std.proofs.lemmas.Grind.{flat_map-append}
use Rattle.std.proofs.lemmas.List.{drop_more}
use Rattle.ncq_journal.proofs.TagLemmas.{range_more}
use Rattle.ncq_journal.specs.Entry.{Entry}
use Rattle.ncq_journal.specs.Numbering.{entry_numbered}
use Rattle.ahci_draw.specs.Entries.{entries_text, line_of, moved_by}
use Rattle.ahci_draw.specs.Text.{piece_text, shape}
use Rattle.ahci_draw.specs.declared.tag_state.TagState.{TagState}
use Rattle.ahci_draw.specs.declared.text.Piece.{Piece}

-- pieces, one after the other
pub two : {X : Type 0} (old one new a a' b b' : List X) → one ≡ old ++ a → new ≡ one ++ b → a ≡ a' → b ≡ b' → new ≡ old ++ (a' ++ b')
two old one new a a' b b' first second p q =
    second ∙ ap (λ t. one ++ t) q ∙ ap (λ t. t ++ b') (first ∙ ap (λ t. old ++ t) p) ∙ append_assoc old a' b'

pub three : {X : Type 0} (old t1 t2 new a a' b b' c c' : List X) → t1 ≡ old ++ a → t2 ≡ t1 ++ b → new ≡ t2 ++ c
    → a ≡ a' → b ≡ b' → c ≡ c' → new ≡ old ++ (a' ++ (b' ++ c'))
three old t1 t2 new a a' b b' c c' p1 p2 p3 q1 q2 q3 =
    two old t1 new a a' (b' ++ c') (b' ++ c') p1 (two t1 t2 new b b' c c' p2 p3 q2 q3) q1 refl

pub four : {X : Type 0} (old t1 t2 t3 new a a' b b' c c' d d' : List X) → t1 ≡ old ++ a → t2 ≡ t1 ++ b → t3 ≡ t2 ++ c → new ≡ t3 ++ d
    → a ≡ a' → b ≡ b' → c ≡ c' → d ≡ d' → new ≡ old ++ (a' ++ (b' ++ (c' ++ d')))
four old t1 t2 t3 new a a' b b' c c' d d' p1 p2 p3 p4 q1 q2 q3 q4 =
    two old t1 new a a' (b' ++ (c' ++ d')) (b' ++ (c' ++ d')) p1 (three t1 t2 t3 new b b' c c' d d' p2 p3 p4 q2 q3 q4) q1 refl

pub five : {X : Type 0} (old t1 t2 t3 t4 new a a' b b' c c' d d' e e' : List X) → t1 ≡ old ++ a → t2 ≡ t1 ++ b → t3 ≡ t2 ++ c → t4 ≡ t3 ++ d → new ≡ t4 ++ e
    → a ≡ a' → b ≡ b' → c ≡ c' → d ≡ d' → e ≡ e' → new ≡ old ++ (a' ++ (b' ++ (c' ++ (d' ++ e'))))
five old t1 t2 t3 t4 new a a' b b' c c' d d' e e' p1 p2 p3 p4 p5 q1 q2 q3 q4 q5 =
    four old t1 t2 t3 new a a' b b' c c' (d' ++ e') (d' ++ e') p1 p2 p3 (two t3 t4 new d d' e e' p4 p5 q4 q5) q1 q2 q3 refl

pub eight : {X : Type 0} (old t1 t2 t3 t4 t5 t6 t7 new a a' b b' c c' d d' e e' f f' g g' h h' : List X) → t1 ≡ old ++ a → t2 ≡ t1 ++ b → t3 ≡ t2 ++ c → t4 ≡ t3 ++ d → t5 ≡ t4 ++ e → t6 ≡ t5 ++ f
    → t7 ≡ t6 ++ g → new ≡ t7 ++ h → a ≡ a' → b ≡ b' → c ≡ c' → d ≡ d' → e ≡ e' → f ≡ f' → g ≡ g' → h ≡ h' → new ≡ old ++ (a' ++ (b' ++ (c' ++ (d' ++ (e' ++ (f' ++ (g' ++ h')))))))
eight old t1 t2 t3 t4 t5 t6 t7 new a a' b b' c c' d d' e e' f f' g g' h h' p1 p2 p3 p4 p5 p6 p7 p8 q1 q2 q3 q4 q5 q6 q7 q8 =
    four old t1 t2 t3 new a a' b b' c c' (d' ++ (e' ++ (f' ++ (g' ++ h')))) (d' ++ (e' ++ (f' ++ (g' ++ h')))) p1 p2 p3
    (five t3 t4 t5 t6 t7 new d d' e e' f f' g g' h h' p4 p5 p6 p7 p8 q4 q5 q6 q7 q8) q1 q2 q3 refl

-- where the text so far and the pieces that are left are the whole, they are so after the next one
pub next_piece : (text new whole : List ℕ) (pieces : List Piece) (i : ℕ) (d : Piece) → i < length pieces → text ++ shape (drop i pieces) ≡ whole
    → new ≡ text ++ piece_text (get_or pieces i d) → new ++ shape (drop (i + 1) pieces) ≡ whole
next_piece text new whole pieces i d low so_far grown =
    ap (λ t. t ++ shape (drop (i + 1) pieces)) grown ∙ append_assoc text (piece_text (get_or pieces i d)) (shape (drop (i + 1) pieces))
    ∙ ap (λ l. text ++ shape l) (sym (drop_more pieces i d low)) ∙ so_far

-- a piece that is another
pub is_then : {X : Type 0} (old new a b : List X) → new ≡ old ++ a → a ≡ b → new ≡ old ++ b
is_then old new a b grown is = grown ∙ ap (λ t. old ++ t) is

-- a piece for each number so far, and one more
pub more_range : {Y : Type 0} (f : ℕ → List Y) (old text new : List Y) (n : ℕ) → text ≡ old ++ flat_map f (range_with_len 0 n) → new ≡ text ++ f n
    → new ≡ old ++ flat_map f (range_with_len 0 (n + 1))
more_range f old text new n so_far grown =
    grown ∙ ap (λ t. t ++ f n) so_far ∙ append_assoc old (flat_map f (range_with_len 0 n)) (f n)
    ∙ ap (λ t. old ++ t)
    (sym
    (ap (flat_map f) (range_more 0 n ∙ ap (λ k. range_with_len 0 n ++ k ∷ []) (zero-add n))
    ∙ flat_map-append f (range_with_len 0 n) (n ∷ []) ∙ ap (λ t. flat_map f (range_with_len 0 n) ++ t) (append-nil (f n))))

-- a piece for each number, where there are so many
pub all_range : {Y : Type 0} (f : ℕ → List Y) (old text : List Y) (n m : ℕ) → n ≡ m → text ≡ old ++ flat_map f (range_with_len 0 n)
    → text ≡ old ++ flat_map f (range_with_len 0 m)
all_range f old text n m same so_far = so_far ∙ ap (λ k. old ++ flat_map f (range_with_len 0 k)) same

-- a test of what is mapped
pub any_mapped : {X Y : Type 0} (p : Y → Bool) (f : X → Y) (xs : List X) → list_any p (map f xs) ≡ list_any (λ x. p (f x)) xs
any_mapped p f [] = refl
any_mapped p f (x ∷ xs) = ap (λ b. p (f x) || b) (any_mapped p f xs)

-- where the text so far and the lines that are left are the whole, they are so after the next one
pub next_line : (first : ℕ) (past : List Entry) (text new whole : List ℕ) (tags after : List TagState) (n end : ℕ) (found : Option Entry)
    → n < end → entry_numbered first past n ≡ found → text ++ entries_text first past tags n (end - n) ≡ whole
    → new ≡ text ++ line_of n tags found → after ≡ moved_by tags found → new ++ entries_text first past after (n + 1) (end - (n + 1)) ≡ whole
unfolding entries_text
next_line first past text new whole tags after n end found low is so_far grown moves =
    ap (λ t. new ++ entries_text first past t (n + 1) (end - (n + 1))) moves
    ∙ ap (λ t. t ++ entries_text first past (moved_by tags found) (n + 1) (end - (n + 1))) grown
    ∙ append_assoc text (line_of n tags found) (entries_text first past (moved_by tags found) (n + 1) (end - (n + 1)))
    ∙ ap (λ e. text ++ (line_of n tags e ++ entries_text first past (moved_by tags e) (n + 1) (end - (n + 1)))) (sym is)
    ∙ ap (λ k. text ++ entries_text first past tags n k) (sym one_more) ∙ so_far
  where
    one_more : end - n ≡ suc (end - (n + 1))
    one_more = omega (arith, low)

pub all_lines : (first : ℕ) (past : List Entry) (text whole : List ℕ) (tags : List TagState) (n left : ℕ) → left ≡ 0
    → text ++ entries_text first past tags n left ≡ whole → text ≡ whole
unfolding entries_text
all_lines first past text whole tags n left none so_far = sym (append-nil text) ∙ ap (λ k. text ++ entries_text first past tags n k) (sym none) ∙ so_far
