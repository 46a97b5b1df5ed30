-- Pieces of text.
use Rattle.std.specs.Prelude.{ℕ, ◌+◌, ◌%◌, List, [], ◌∷◌, ◌++◌, flat_map}
use Rattle.std.specs.Fmt.{decimal}
use Rattle.ahci_draw.specs.declared.text.Piece.{Piece}
use Rattle.ahci_draw.specs.declared.text.Piece.TheVariants as piece

-- a word, and a number after it
unfoldable pub numbered : List ℕ → ℕ → List ℕ
numbered word number = word ++ decimal number

-- what the code's pieces say, one after the other
abbrev pub piece_text : Piece → List ℕ
piece_text (piece.Word word) = word.now
piece_text (piece.Numbered word number) = numbered word.now number
piece_text (piece.Byte byte) = byte ∷ []

abbrev pub shape : List Piece → List ℕ
shape pieces = flat_map piece_text pieces

-- a count or a tag as a letter: A for 0. None that is drawn reaches 58
abbrev pub letter : ℕ → ℕ
letter count = 65 + count % 58
