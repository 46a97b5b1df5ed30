-- The tags of a list, one after another.
use Rattle.std.proofs.Common.{◌≡◌, ℕ, ◌+◌, ◌<◌, ◌≤◌, Bool, true, false, cond, List, [], ◌∷◌, ◌++◌, Option, Some, None, is_some, length, get_or, take, drop, refl, sym, ap, ◌∙◌}
use Rattle.std.specs.List.{list_any}
use Rattle.std.specs.Option.{option_or}
use Rattle.std.specs.Prelude.{nat_eq}
use Rattle.std.proofs.Math.ListN.{drop_of_length-le}
use Rattle.std.proofs.Math.Numerals.{add-one}
use Rattle.std.proofs.Math.Seq.{drop-cons}
use Rattle.std.proofs.lemmas.List.{take_more}
use Rattle.ahci_script.specs.Words.{after_first}
use Rattle.ahci_check.specs.Limits.{excess_at, far_tag, tag_excess, twice_among}
use Rattle.ahci_check.specs.declared.excess.Excess.{Excess}
use Rattle.ahci_check.specs.declared.limit.Limit.TheVariants as limit

split : (tags : List ℕ) (i t : ℕ) → i < length tags → t ≡ get_or tags i 0 → drop i tags ≡ t ∷ drop (i + 1) tags
split tags i t low is = drop-cons tags i 0 low ∙ ap (λ k. get_or tags i 0 ∷ drop k tags) (sym (add-one i)) ∙ ap (λ x. x ∷ drop (i + 1) tags) (sym is)

found : (o rest : Option Excess) → is_some o ≡ true → option_or o rest ≡ o
found None rest is = absurd (let z : false ≡ true = is in cc)
found (Some e) rest is = refl

missing : (o rest : Option Excess) → is_some o ≡ false → option_or o rest ≡ rest
missing None rest is = refl
missing (Some e) rest is = absurd (let z : true ≡ false = is in cc)

-- the next tag is far
pub far-here : (depth : ℕ) (words tags : List ℕ) (i t : ℕ) (excess : Option Excess) → i < length tags → t ≡ get_or tags i 0 → excess ≡ tag_excess depth words t → is_some excess ≡ true
    → far_tag depth words (drop i tags) ≡ excess
far-here depth words tags i t excess low here is some =
    ap (far_tag depth words) (split tags i t low here) ∙ ap (λ o. option_or o (far_tag depth (after_first words) (drop (i + 1) tags))) (sym is)
    ∙ found excess (far_tag depth (after_first words) (drop (i + 1) tags)) some

-- or it isn't
pub far-later : (depth : ℕ) (words tags : List ℕ) (i t : ℕ) (excess : Option Excess) → i < length tags → t ≡ get_or tags i 0 → excess ≡ tag_excess depth words t → is_some excess ≡ false
    → far_tag depth words (drop i tags) ≡ far_tag depth (after_first words) (drop (i + 1) tags)
far-later depth words tags i t excess low here is none =
    ap (far_tag depth words) (split tags i t low here) ∙ ap (λ o. option_or o (far_tag depth (after_first words) (drop (i + 1) tags))) (sym is)
    ∙ missing excess (far_tag depth (after_first words) (drop (i + 1) tags)) none

-- no tag is left
pub far-none : (depth : ℕ) (words tags : List ℕ) (i : ℕ) → length tags ≤ i → far_tag depth words (drop i tags) ≡ None
far-none depth words tags i high = ap (far_tag depth words) (drop_of_length-le tags high)

-- the next tag is among those before it
pub twice-here : (words tags : List ℕ) (i t : ℕ) (b : Bool) → i < length tags → t ≡ get_or tags i 0 → b ≡ list_any (λ other. nat_eq other t) (take i tags) → b ≡ true
    → twice_among (take i tags) words (drop i tags) ≡ excess_at words (limit.TagTwice t)
twice-here words tags i t b low here is holds =
    ap (twice_among (take i tags) words) (split tags i t low here)
    ∙ ap (λ x. cond x (excess_at words (limit.TagTwice t)) (twice_among (take i tags ++ t ∷ []) (after_first words) (drop (i + 1) tags))) (sym is ∙ holds)

-- or it doesn't
pub twice-later : (words tags : List ℕ) (i t : ℕ) (b : Bool) → i < length tags → t ≡ get_or tags i 0 → b ≡ list_any (λ other. nat_eq other t) (take i tags) → b ≡ false
    → twice_among (take i tags) words (drop i tags) ≡ twice_among (take (i + 1) tags) (after_first words) (drop (i + 1) tags)
twice-later words tags i t b low here is fails =
    ap (twice_among (take i tags) words) (split tags i t low here)
    ∙ ap (λ x. cond x (excess_at words (limit.TagTwice t)) (twice_among (take i tags ++ t ∷ []) (after_first words) (drop (i + 1) tags))) (sym is ∙ fails)
    ∙ ap (λ l. twice_among l (after_first words) (drop (i + 1) tags)) (ap (λ x. take i tags ++ x ∷ []) here ∙ sym (take_more tags i 0 low))

pub twice-none : (before words tags : List ℕ) (i : ℕ) → length tags ≤ i → twice_among before words (drop i tags) ≡ None
twice-none before words tags i high = ap (twice_among before words) (drop_of_length-le tags high)
