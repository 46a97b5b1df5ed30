-- The least of the marks in a range is in it; and one more mark.
use Rattle.std.proofs.Common.{◌≡◌, ◌∙◌, ℕ, zero, suc, ◌+◌, ◌<◌, ◌≤◌, min, true, List, [], ◌∷◌, ◌++◌, IfSome, ap, All, filter, fold, nat_le, nat_lt, arith}
use Rattle.std.specs.List.{range_with_len, reduce}
use Rattle.std.proofs.lemmas.Bool.{and_parts, leb-true, ltb-true}
use Rattle.std.proofs.lemmas.List.Elements.{All-head, All-tail, filter_passes}
use Rattle.hba_command.specs.Uncorrectable.{first_marked, is_among}

abbrev IsIn : (first sectors lba : ℕ) → Type 0
IsIn first sectors lba = (first ≤ lba) × (lba < first + sectors)

abbrev IsMarked : (first sectors lba : ℕ) → Type 0
IsMarked first sectors lba = is_among first sectors lba ≡ true

is_in : (first sectors lba : ℕ) → is_among first sectors lba ≡ true → IsIn first sectors lba
is_in first sectors lba e =
    let p = and_parts (nat_le first lba) (nat_lt lba (first + sectors)) e in
    (leb-true first lba p.0, ltb-true lba (first + sectors) p.1)

lesser_is_in : (first sectors a b : ℕ) → IsIn first sectors a → IsIn first sectors b → IsIn first sectors (min a b)
lesser_is_in first sectors a b x y = (let p = x.0 in let q = y.0 in omega arith, let p = x.1 in omega arith)

least_is_in : (first sectors a : ℕ) (xs : List ℕ) → IsIn first sectors a → All (IsMarked first sectors) xs → IsIn first sectors (fold min a xs)
least_is_in first sectors a [] x all = x
least_is_in first sectors a (b ∷ xs) x all =
    least_is_in first sectors (min a b) xs (lesser_is_in first sectors a b x (is_in first sectors b (All-head (IsMarked first sectors) b xs all)))
    (All-tail (IsMarked first sectors) b xs all)

reduced_is_in : (first sectors : ℕ) (xs : List ℕ) → All (IsMarked first sectors) xs → IfSome (reduce min xs) (IsIn first sectors)
reduced_is_in first sectors [] all = tt
reduced_is_in first sectors (a ∷ xs) all =
    least_is_in first sectors a xs (is_in first sectors a (All-head (IsMarked first sectors) a xs all)) (All-tail (IsMarked first sectors) a xs all)

pub first_is_among : (first sectors : ℕ) (marks : List ℕ) → IfSome (first_marked first sectors marks) (IsIn first sectors)
first_is_among first sectors marks = reduced_is_in first sectors (filter (is_among first sectors) marks) (filter_passes (is_among first sectors) marks)

counted : (a n m : ℕ) → a + n ≡ m → range_with_len a (suc n) ≡ range_with_len a n ++ m ∷ []
counted a zero m same = ap (λ x. x ∷ []) (omega arith)
counted a (suc n) m same = ap (λ l. a ∷ l) (counted (a + 1) n m (omega arith))

pub one_more : (a n m : ℕ) → a + n ≡ m → range_with_len a (n + 1) ≡ range_with_len a n ++ m ∷ []
one_more a n m same = let next : n + 1 ≡ suc n = omega arith in ap (λ k. range_with_len a k) next ∙ counted a n m same
