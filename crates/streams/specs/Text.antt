-- Text that grows at its end, and numbers in hexadecimal.
use Rattle.std.specs.Prelude.{ℕ, zero, suc, ◌/◌, ◌%◌, List, [], ◌∷◌, ◌++◌, false}
use Rattle.std.specs.Fmt.{digit_glyph}

-- what a buffer holds, and how many bytes more it takes without an allocation
pub record Text : Type 0 where
  pub bytes : List ℕ
  pub room : ℕ

-- the last digits of a number as hexadecimal ones, in lower case
abbrev pub hex_of : ℕ → ℕ → List ℕ
hex_of zero number = []
hex_of (suc digits) number =
    hex_of digits (number / 16) ++ digit_glyph false (number % 16) ∷ []
