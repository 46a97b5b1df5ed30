-- The 1,200 places of an overview: of so many entries, that of an index is at place index * 1200 / count (`AreAtTheirPlaces`).
use Rattle.std.specs.Prelude.{ℕ, ◌+◌, ◌-◌, ◌*◌, ◌/◌, ◌==◌, List, count_by, drop, length, take, Option, position}

-- the first index at a place or after it: place * count / 1200, rounded up
abbrev pub edge : (count place : ℕ) → ℕ
edge count place = (place * count + 1199) / 1200

-- the signs of the entries at a place
abbrev pub part_of : List ℕ → ℕ → List ℕ
part_of signs place = take (edge (length signs) (place + 1) - edge (length signs) place) (drop (edge (length signs) place) signs)

-- how many of these signs are this one, and the index of the first
abbrev pub count_of : (sign : ℕ) → List ℕ → ℕ
count_of sign signs = count_by (λ s. s == sign) signs

abbrev pub first_of : (sign : ℕ) → List ℕ → Option ℕ
first_of sign signs = position (λ s. s == sign) signs
