-- The places of an overview follow each other, and hold all of its entries.
use Rattle.std.proofs.Common.{◌≡◌, ◌∙◌, ℕ, ◌+◌, ◌-◌, ◌*◌, ◌/◌, ◌<◌, ◌≤◌, zero, suc, List, [], ◌∷◌, ◌++◌, ap, append-nil, arith, length, sym, take, zero-add}
use Rattle.std.specs.List.{flat_map, range_with_len}
use Rattle.std.proofs.lemmas.Grind.{flat_map-append}
use Rattle.std.proofs.lemmas.List.{take_all}
use Rattle.std.proofs.Math.Nat.{div-add-mod, mod-lt, mul-le-mul_right, mul_comm}
use Rattle.std.proofs.Math.Seq.{take-add}
use Rattle.ncq_journal.proofs.TagLemmas.{range_more}
use Rattle.ahci_draw.specs.Laws.{AreAtTheirPlaces, PlacesHoldEachOnce}
use Rattle.ahci_draw.specs.Places.{edge, part_of}

-- a place more holds as many entries more as there are in all, by 1,200
one_more : (count place : ℕ) → (place + 1) * count ≡ place * count + count
one_more count place = grind arith

pub edge_more : (count place : ℕ) → edge count place ≤ edge count (place + 1)
edge_more count place = omega (arith, one_more count place)

pub edge_within : (count place : ℕ) → place ≤ 1200 → edge count place ≤ count
edge_within count place low =
    let product : place * count ≤ 1200 * count = mul-le-mul_right count low in
    omega (arith, product)

pub are_at_their_places : AreAtTheirPlaces
are_at_their_places count index low =
    let some : zero < count = omega (arith, low) in
    let whole = div-add-mod (index * 1200) count in
    let rest = mod-lt (index * 1200) some in
    let turned = mul_comm count (index * 1200 / count) in
    let more = one_more count (index * 1200 / count) in
    (omega (arith, whole, rest, turned), omega (arith, whole, rest, turned, more))

next : (signs : List ℕ) (n : ℕ)
    → flat_map (part_of signs) (range_with_len 0 (n + 1)) ≡ flat_map (part_of signs) (range_with_len 0 n) ++ part_of signs n
next signs n =
    ap (flat_map (part_of signs)) (range_more 0 n ∙ ap (λ k. range_with_len 0 n ++ k ∷ []) (zero-add n))
    ∙ flat_map-append (part_of signs) (range_with_len 0 n) (n ∷ []) ∙ ap (λ t. flat_map (part_of signs) (range_with_len 0 n) ++ t) (append-nil (part_of signs n))

first_places : (signs : List ℕ) (n : ℕ) → flat_map (part_of signs) (range_with_len 0 n) ≡ take (edge (length signs) n) signs
first_places signs zero =
    let none : edge (length signs) zero ≡ zero = omega arith in
    ap (λ k. take k signs) (sym none)
first_places signs (suc n) =
    let after : suc n ≡ n + 1 = omega arith in
    let low = edge_more (length signs) n in
    let size : edge (length signs) n + (edge (length signs) (n + 1) - edge (length signs) n) ≡ edge (length signs) (n + 1) = omega (arith, low) in
    ap (λ k. flat_map (part_of signs) (range_with_len 0 k)) after ∙ next signs n ∙ ap (λ t. t ++ part_of signs n) (first_places signs n)
    ∙ sym (take-add (edge (length signs) n) (edge (length signs) (n + 1) - edge (length signs) n) signs)
    ∙ ap (λ k. take k signs) size ∙ ap (λ k. take (edge (length signs) k) signs) (sym after)

pub places_hold : PlacesHoldEachOnce
places_hold signs =
    let all : length signs ≤ edge (length signs) 1200 = omega arith in
    first_places signs 1200 ∙ take_all (edge (length signs) 1200) signs all
