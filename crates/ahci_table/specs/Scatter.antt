-- What moving data into a window changes: a range of its text, and nothing else.
use Rattle.std.specs.Prelude.{◌≡◌, ℕ, Bool, false, List, length}
use Rattle.std.specs.List.{list_any}
use Rattle.sata_fis.specs.Places.{byte}
use Rattle.ahci_table.specs.declared.piece.Piece.{Piece}
use Rattle.ahci_table.specs.Piece.{covers}
use Rattle.ahci_table.specs.Window.{WindowState}
use Rattle.ahci_table.specs.Prdt.{pieces}
use Rattle.ahci_table.specs.Text.{text, replaced}
use Rattle.ahci_table.specs.Command.{cfis}

-- the byte at a place is one of some piece's
abbrev pub in_some : ℕ → List Piece → Bool
in_some x ps = list_any (covers x) ps

-- the bytes are in the new window's text from the offset on, and all else is as it was
pub record IsScattered (old : WindowState) (offset : ℕ) (from : List ℕ) (new : WindowState) : Type 0 where
  pub text_is : text new ≡ replaced offset from (text old)
  pub tag_is : new.tag ≡ old.tag
  pub header_is : new.header ≡ old.header
  pub len_is : length new.bytes ≡ length old.bytes
  pub pieces_are : pieces new ≡ pieces old
  pub cfis_is : cfis new ≡ cfis old
  pub others : (x : ℕ) → in_some x (pieces old) ≡ false → byte x new.bytes ≡ byte x old.bytes
