-- How data come after what a new window has already: piece by piece, where the pieces rise.
use Rattle.std.specs.Prelude.{ℕ, ◌-◌, Bool, true, ◌&&◌, nat_le, List, [], ◌∷◌, ◌++◌, take, drop, replicate}
use Rattle.ahci_table.specs.declared.piece.Piece.{Piece}
use Rattle.ahci_table.specs.Piece.{end_of}

-- the first piece begins at a place or after it, and each other one where the piece before it ends, or after that
abbrev pub rises : ℕ → List Piece → Bool
rises end [] = true
rises end (p ∷ ps) = nat_le end p.at && rises (end_of p) ps

-- what is there from a place on: zeros up to each piece, and then its bytes of the text
abbrev pub laid : ℕ → List Piece → List ℕ → List ℕ
laid end [] text = []
laid end (p ∷ ps) text = replicate (p.at - end) 0 ++ take p.len text ++ laid (end_of p) ps (drop p.len text)
