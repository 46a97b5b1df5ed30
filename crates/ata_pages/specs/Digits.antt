-- Numbers with a fixed count of digits.
use Rattle.std.specs.Prelude.{ℕ, zero, suc, ◌/◌, ◌%◌, List, [], ◌∷◌, ◌++◌, false}
use Rattle.std.specs.Fmt.{digit_glyph}

-- the last so many digits of a number in a base of at most 16, letters in lower case
abbrev pub last_digits : ℕ → ℕ → ℕ → List ℕ
last_digits base zero number = []
last_digits base (suc count) number = last_digits base count (number / base) ++ digit_glyph false (number % base) ∷ []
