-- Lemmas about lists of tags.
use Rattle.std.proofs.Common.{◌≡◌, ℕ, zero, suc, ◌-◌, ◌<◌, ◌≤◌, List, [], ◌∷◌, ◌++◌, length, refl, sym, ap, ◌∙◌, Some, None, Ok, Err, All, append_assoc, append-nil, arith, length-append}
use Rattle.std.specs.Fmt.{decimal}
use Rattle.std.proofs.lemmas.List.Elements.{All-head, All-tail}
use Rattle.ahci_script.specs.Answers.{numbers_text}
use Rattle.ahci_script.specs.Breaches.{◌>>=◌, breach_at}
use Rattle.ahci_script.specs.Lines.{AreTags, more_tags, tags_of}
use Rattle.ahci_script.specs.Number.{tag_of}
use Rattle.ahci_script.specs.Words.{Rest, word_of}
use Rattle.ahci_script.specs.declared.breach.Breach.{Breach}
use Rattle.ahci_script.specs.declared.fault.Fault.TheVariants.{ManyTags}
use Rattle.ahci_script.proofs.PrintingLemmas.{tag-spelled, word-before, word-last}

-- nothing is left: the tags are there
pub tags-done : (room : ℕ) (tags : List ℕ) (left : Rest) → None ≡ left → more_tags room tags left ≡ Ok tags
unfolding more_tags
tags-done room tags left end = ap (more_tags room tags) (sym end) ∙ by room
  where
    by : (room : ℕ) → more_tags room tags None ≡ Ok tags
    by zero = refl
    by (suc room) = refl

-- a tag more
step : (room : ℕ) (tags text : List ℕ) (t : ℕ) (rest : Rest) → word_of tag_of (Some text) ≡ Ok (t, rest)
    → more_tags (suc room) tags (Some text) ≡ more_tags room (tags ++ t ∷ []) rest
unfolding more_tags
step room tags text t rest is = ap (λ r. r >>= λ w. more_tags room (tags ++ w.0 ∷ []) w.1) is

pub tags-next : (tags text : List ℕ) (left : Rest) (t : ℕ) (rest : Rest) → Some text ≡ left → length tags < 32 → Ok (t, rest) ≡ word_of tag_of left
    → more_tags (32 - length tags) tags left ≡ more_tags (32 - length (tags ++ t ∷ [])) (tags ++ t ∷ []) rest
tags-next tags text left t rest some few is =
    let len = length-append tags (t ∷ []) in
    let room : 32 - length tags ≡ suc (31 - length tags) = omega (arith, few) in
    let less : 31 - length tags ≡ 32 - length (tags ++ t ∷ []) = omega (arith, few, len) in
    ap (more_tags (32 - length tags) tags) (sym some) ∙ ap (λ n. more_tags n tags (Some text)) room
    ∙ step (31 - length tags) tags text t rest (ap (word_of tag_of) some ∙ sym is) ∙ ap (λ n. more_tags n (tags ++ t ∷ []) rest) less

-- a word that spells no tag
pub tags-broken : (tags text : List ℕ) (left : Rest) (breach : Breach) → Some text ≡ left → length tags < 32 → Err breach ≡ word_of tag_of left
    → more_tags (32 - length tags) tags left ≡ Err breach
unfolding more_tags
tags-broken tags text left breach some few is =
    let room : 32 - length tags ≡ suc (31 - length tags) = omega (arith, few) in
    ap (more_tags (32 - length tags) tags) (sym some) ∙ ap (λ n. more_tags n tags (Some text)) room
    ∙ broken (31 - length tags) (ap (word_of tag_of) some ∙ sym is)
  where
    broken : (room : ℕ) → word_of tag_of (Some text) ≡ Err breach → more_tags (suc room) tags (Some text) ≡ Err breach
    broken room is = ap (λ r. r >>= λ w. more_tags room (tags ++ w.0 ∷ []) w.1) is

-- a word too many
pub tags-full : (tags text : List ℕ) (left : Rest) → Some text ≡ left → 32 ≤ length tags → more_tags (32 - length tags) tags left ≡ Err (breach_at text ManyTags)
unfolding more_tags
tags-full tags text left some full =
    let room : 32 - length tags ≡ 0 = omega (arith, full) in
    ap (more_tags (32 - length tags) tags) (sym some) ∙ ap (λ n. more_tags n tags (Some text)) room ∙ none
  where
    none : more_tags 0 tags (Some text) ≡ Err (breach_at text ManyTags)
    none = refl

-- the first tag was read, and others after it
pub tags-so_far : (words next left : Rest) (t : ℕ) (none first tags : List ℕ) → Ok (t, next) ≡ word_of tag_of words → none ≡ [] → first ≡ none ++ t ∷ []
    → more_tags (32 - length tags) tags left ≡ more_tags (32 - length first) first next → tags_of words ≡ more_tags (32 - length tags) tags left
tags-so_far words next left t none first tags is empty pushed goes =
    let one : first ≡ t ∷ [] = pushed ∙ ap (λ l. l ++ t ∷ []) empty in
    ap (λ r. r >>= λ w. more_tags 31 (w.0 ∷ []) w.1) (sym is) ∙ ap (λ l. more_tags (32 - length l) l next) (sym one) ∙ sym goes

-- printed tags are read back
more-back : (room : ℕ) (tags : List ℕ) (t : ℕ) (ts : List ℕ) → length (t ∷ ts) ≤ room → All (λ t. t < 32) (t ∷ ts)
    → more_tags room tags (Some (decimal t ++ numbers_text ts)) ≡ Ok (tags ++ t ∷ ts)
more-back zero tags t ts few all = absurd (omega (arith, few))
more-back (suc room) tags t [] few all =
    let first : t < 32 = All-head (λ t. t < 32) t [] all in
    ap (λ l. more_tags (suc room) tags (Some l)) (append-nil (decimal t)) ∙ step room tags (decimal t) t None (word-last (tag-spelled t first)) ∙ tags-done room (tags ++ t ∷ []) None refl
more-back (suc room) tags t (u ∷ us) few all =
    let first : t < 32 = All-head (λ t. t < 32) t (u ∷ us) all in
    step room tags (decimal t ++ numbers_text (u ∷ us)) t (Some (decimal u ++ numbers_text us)) (word-before (decimal u ++ numbers_text us) (tag-spelled t first))
    ∙ more-back room (tags ++ t ∷ []) u us (omega (arith, few)) (All-tail (λ t. t < 32) t (u ∷ us) all)
    ∙ ap Ok (append_assoc tags (t ∷ []) (u ∷ us))

pub tags-back : (t : ℕ) (ts : List ℕ) → AreTags (t ∷ ts) → tags_of (Some (decimal t ++ numbers_text ts)) ≡ Ok (t ∷ ts)
tags-back t [] are =
    let first : t < 32 = All-head (λ t. t < 32) t [] are.small in
    ap (λ l. tags_of (Some l)) (append-nil (decimal t)) ∙ ap (λ r. r >>= λ w. more_tags 31 (w.0 ∷ []) w.1) (word-last (tag-spelled t first)) ∙ tags-done 31 (t ∷ []) None refl
tags-back t (u ∷ us) are =
    let first : t < 32 = All-head (λ t. t < 32) t (u ∷ us) are.small in
    ap (λ r. r >>= λ w. more_tags 31 (w.0 ∷ []) w.1) (word-before (decimal u ++ numbers_text us) (tag-spelled t first))
    ∙ more-back 31 (t ∷ []) u us (omega (arith, are.most)) (All-tail (λ t. t < 32) t (u ∷ us) are.small)
