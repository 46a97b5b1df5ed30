-- The lines that `ahci run` writes.
use Rattle.std.specs.Prelude.{ℕ, ◌/◌, List, ◌++◌, length, codes}
use Rattle.std.specs.Fmt.{decimal}
use Rattle.streams.specs.Text.{hex_of}
use Rattle.ahci_script.specs.Answers.{sectors_text}
use Rattle.ahci_script.specs.declared.result_line.ResultLine.{ResultLine}
use Rattle.ahci_script.specs.declared.result_line.ResultLine.TheVariants as code

-- what a line says, as plain values
pub data Told : Type 0 where
  Wrote : Told
  Read : (bytes : List ℕ) → Told
  Failed : (error lba : ℕ) → Told
  Sector : (lba byte : ℕ) → Told

-- what the code's line says
abbrev pub told : ResultLine → Told
told code.Wrote = Wrote
told (code.Read bytes) = Read bytes.now
told (code.Failed error lba) = Failed error lba
told (code.Sector byte lba) = Sector lba byte

-- its text, without its line feed
abbrev pub told_text : Told → List ℕ
told_text Wrote = codes "wrote"
told_text (Read bytes) = codes "read" ++ sectors_text bytes (length bytes / 512)
told_text (Failed error lba) = codes "failed " ++ (hex_of 2 error ++ (codes " " ++ decimal lba))
told_text (Sector lba byte) = codes "sector " ++ (decimal lba ++ (codes " " ++ hex_of 2 byte))
