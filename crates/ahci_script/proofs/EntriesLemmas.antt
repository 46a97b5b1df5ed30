-- Lemmas about the text of entries that follow one another.
use Rattle.std.proofs.Common.{◌≡◌, ℕ, ◌+◌, ◌-◌, ◌≤◌, List, [], ◌∷◌, ◌++◌, sym, ap, ◌∙◌, append_assoc, append-nil, map-id, arith}
use Rattle.std.specs.Fmt.{decimal}
use Rattle.std.specs.List.{range_with_len}
use Rattle.std.proofs.lemmas.List.FromFn.{map-range_with_len_more}
use Rattle.ahci_script.specs.Answers.{entries_between, numbers_text}

-- one number more
pub numbers-more : (ns : List ℕ) (n : ℕ) → numbers_text (ns ++ n ∷ []) ≡ numbers_text ns ++ (32 ∷ decimal n)
numbers-more [] n = ap (λ l. 32 ∷ l) (append-nil (decimal n))
numbers-more (m ∷ ns) n = ap (λ l. 32 ∷ (decimal m ++ l)) (numbers-more ns n) ∙ ap (λ l. 32 ∷ l) (sym (append_assoc (decimal m) (numbers_text ns) (32 ∷ decimal n)))

-- one entry more
between-more : (first entry : ℕ) → first ≤ entry → entries_between first (entry + 1) ≡ entries_between first entry ++ entry ∷ []
between-more first entry le =
    let n = entry - first in
    let len : entry + 1 - first ≡ n + 1 = omega (arith, le) in
    ap (range_with_len first) len
    ∙ sym (map-id (range_with_len first (n + 1))) ∙ map-range_with_len_more (λ x. x) first n entry (omega (arith, le))
    ∙ ap (λ l. l ++ entry ∷ []) (map-id (range_with_len first n))

text-more : (first entry : ℕ) → first ≤ entry → numbers_text (entries_between first (entry + 1)) ≡ numbers_text (entries_between first entry) ++ (32 ∷ decimal entry)
text-more first entry le = ap numbers_text (between-more first entry le) ∙ numbers-more (entries_between first entry) entry

-- so it is with the text before them
pub appended-more : (old so_far now : List ℕ) (first entry : ℕ) → first ≤ entry → so_far ≡ old ++ numbers_text (entries_between first entry) → now ≡ so_far ++ (32 ∷ decimal entry)
    → now ≡ old ++ numbers_text (entries_between first (entry + 1))
appended-more old so_far now first entry le before more =
    more ∙ ap (λ l. l ++ (32 ∷ decimal entry)) before ∙ append_assoc old (numbers_text (entries_between first entry)) (32 ∷ decimal entry)
    ∙ ap (λ l. old ++ l) (sym (text-more first entry le))
