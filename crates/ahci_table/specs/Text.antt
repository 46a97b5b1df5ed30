-- The data of a command: the bytes of the pieces, joined in the order of the list (AHCI 1.3.1, section 4.2.3).
use Rattle.std.specs.Prelude.{ℕ, ◌+◌, List, [], ◌∷◌, ◌++◌, length, take, drop}
use Rattle.ahci_table.specs.declared.piece.Piece.{Piece}
use Rattle.ahci_table.specs.Window.{WindowState}
use Rattle.ahci_table.specs.Prdt.{pieces}

-- the bytes of one piece
abbrev pub bytes_of : Piece → List ℕ → List ℕ
bytes_of p bytes = take p.len (drop p.at bytes)

-- the bytes of each piece, one piece after the other
abbrev pub joined : List Piece → List ℕ → List ℕ
joined [] bytes = []
joined (p ∷ ps) bytes = bytes_of p bytes ++ joined ps bytes

-- the text of a window
abbrev pub text : WindowState → List ℕ
text w = joined (pieces w) w.bytes

-- a text with some of its bytes replaced from an offset on
abbrev pub replaced : ℕ → List ℕ → List ℕ → List ℕ
replaced offset from text = take offset text ++ from ++ drop (offset + length from) text
