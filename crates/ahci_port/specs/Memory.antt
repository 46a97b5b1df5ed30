-- The memory of one tag's command, as the device's host sees it.
use Rattle.std.specs.Prelude.{◌≡◌, refl, ℕ, false, List, length}
use Rattle.std.proofs.Common.{ap, ◌∙◌}
use Rattle.sata_fis.specs.Places.{byte}
use Rattle.ahci_table.specs.Command.{cfis}
use Rattle.ahci_table.specs.Prdt.{pieces}
use Rattle.ahci_table.specs.Scatter.{in_some}
use Rattle.ahci_table.specs.Window.{WindowState}

-- the window, the last DMA Setup, and how many bytes of the text have moved since
pub record MemoryState : Type 0 where
  pub window : WindowState
  pub setup : List ℕ
  pub offset : ℕ

-- no byte outside the window's pieces has changed
pub record IsKept (old new : WindowState) : Type 0 where
  pub tag_is : new.tag ≡ old.tag
  pub header_is : new.header ≡ old.header
  pub len_is : length new.bytes ≡ length old.bytes
  pub pieces_are : pieces new ≡ pieces old
  pub cfis_is : cfis new ≡ cfis old
  pub others : (x : ℕ) → in_some x (pieces old) ≡ false → byte x new.bytes ≡ byte x old.bytes

-- windows of which nothing else has changed follow one another
pub kept_itself : (a : WindowState) → IsKept a a
kept_itself a = record { tag_is = refl; header_is = refl; len_is = refl; pieces_are = refl; cfis_is = refl; others = λ x e. refl }

pub kept_on : (a b c : WindowState) → IsKept a b → IsKept b c → IsKept a c
kept_on a b c ab bc = record {
  tag_is = bc.tag_is ∙ ab.tag_is;
  header_is = bc.header_is ∙ ab.header_is;
  len_is = bc.len_is ∙ ab.len_is;
  pieces_are = bc.pieces_are ∙ ab.pieces_are;
  cfis_is = bc.cfis_is ∙ ab.cfis_is;
  others = λ x e. bc.others x (ap (in_some x) ab.pieces_are ∙ e) ∙ ab.others x e;
}
