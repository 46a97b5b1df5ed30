-- A run of a window's bytes that a command's data goes to or comes from (AHCI 1.3.1, "Physical Region Descriptor
-- Table"), by its place from the window's base on, and lists of such runs.
use Rattle.std.specs.Prelude.{ℕ, ◌+◌, max, Bool, true, ◌&&◌, ◌||◌, nat_eq, nat_le, nat_lt, List, [], ◌∷◌}
use Rattle.std.specs.List.{list_all}
use Rattle.ahci_table.specs.declared.piece.Piece.{Piece}

-- the place after the piece's last byte
abbrev pub end_of : Piece → ℕ
end_of p = p.at + p.len

-- the byte at a place is one of the piece's
abbrev pub covers : ℕ → Piece → Bool
covers x p = nat_le p.at x && nat_lt x (end_of p)

-- the pieces share no byte: one ends where the other begins, or before
abbrev pub is_apart : Piece → Piece → Bool
is_apart p q = nat_le (end_of p) q.at || nat_le (end_of q) p.at

-- no two pieces of the list share a byte
abbrev pub are_apart : List Piece → Bool
are_apart [] = true
are_apart (p ∷ ps) = list_all (is_apart p) ps && are_apart ps

-- the first piece begins at a place, and each other one where the piece before it ends
abbrev pub are_one_run : ℕ → List Piece → Bool
are_one_run place [] = true
are_one_run place (p ∷ ps) = nat_eq p.at place && are_one_run (end_of p) ps

-- the bytes of all pieces together
abbrev pub total : List Piece → ℕ
total [] = 0
total (p ∷ ps) = p.len + total ps

-- where the piece that reaches furthest ends
abbrev pub furthest : List Piece → ℕ
furthest [] = 0
furthest (p ∷ ps) = max (end_of p) (furthest ps)
