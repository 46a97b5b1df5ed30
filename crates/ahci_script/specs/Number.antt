-- How a script writes numbers.
use Rattle.std.specs.Prelude.{ℕ, ◌+◌, ◌-◌, ◌*◌, ◌^◌, Bool, List, [], ◌∷◌, Option, Some, None, Result, Ok, Err, length, nat_lt, nat_le, fold, ◌&&◌, option_and_then, if◌then◌else◌}
use Rattle.std.specs.Char.{is_ascii_digit}
use Rattle.std.specs.List.{list_all}
use Rattle.std.specs.Option.{is_some, ok_or}
use Rattle.ahci_script.specs.Breaches.{◌>>=◌}
use Rattle.ahci_script.specs.declared.fault.Fault.{Fault}
use Rattle.ahci_script.specs.declared.fault.Fault.TheVariants.{LargeCount, LargeTag, LargeWord, LongNumber, LongRegister, NotDecimal, NotHexadecimal, NotTwoDigits, WideNumber}

-- the number with one more digit after it
abbrev pub with_digit : ℕ → ℕ → ℕ
with_digit n digit = 10 * n + (digit - 48)

-- the value of decimal digits, the most significant first
abbrev pub decimal_value : List ℕ → ℕ
decimal_value digits = fold with_digit 0 digits

-- the word has decimal digits and nothing else
abbrev pub is_decimal : List ℕ → Bool
is_decimal word = nat_lt 0 (length word) && list_all is_ascii_digit word

-- a number below a limit, else none
abbrev pub below : ℕ → ℕ → Option ℕ
below limit n = if nat_lt n limit then Some n else None

-- a decimal number: 1 to 20 digits, whose value fits 64 bits
abbrev pub decimal_of : List ℕ → Result ℕ Fault
decimal_of word =
    if is_decimal word then (if nat_lt 20 (length word) then Err LongNumber else ok_or (below (2 ^ 64) (decimal_value word)) WideNumber)
    else Err NotDecimal

-- a decimal number below a limit
abbrev pub decimal_below : ℕ → (ℕ → Fault) → List ℕ → Result ℕ Fault
decimal_below limit large word = do
  n ← decimal_of word
  if nat_lt n limit then Ok n else Err (large n)

-- a tag: 0 to 31
abbrev pub tag_of : List ℕ → Result ℕ Fault
tag_of = decimal_below 32 LargeTag

-- a number of sectors is below this: the largest disk has 131,072
abbrev pub sectors_limit : ℕ
sectors_limit = 131073

-- a number of sectors: 0 to 131,072
abbrev pub sectors_of : List ℕ → Result ℕ Fault
sectors_of = decimal_below sectors_limit LargeCount

-- a word of the identify page: 0 to 255
abbrev pub page_word_of : List ℕ → Result ℕ Fault
page_word_of = decimal_below 256 LargeWord

-- the value of a hexadecimal digit, in either case
abbrev pub hex_digit_of : ℕ → Option ℕ
hex_digit_of b =
    if nat_le 48 b && nat_le b 57 then Some (b - 48) else (if nat_le 97 b && nat_le b 102 then Some (b - 87) else (if nat_le 65 b && nat_le b 70 then Some (b - 55) else None))

-- the number with one more hexadecimal digit after it; none where it is no digit
abbrev pub with_hex_digit : Option ℕ → ℕ → Option ℕ
with_hex_digit number digit =
    option_and_then (λ n. option_and_then (λ d. Some (16 * n + d)) (hex_digit_of digit)) number

-- the value of hexadecimal digits, the most significant first
abbrev pub hexadecimal_value : List ℕ → Option ℕ
hexadecimal_value digits = fold with_hex_digit (Some 0) digits

abbrev pub is_hex_digit : ℕ → Bool
is_hex_digit letter = is_some (hex_digit_of letter)

-- no hexadecimal word of its length: another letter, or else a wrong length
abbrev pub not_hexadecimal : List ℕ → Fault → Fault
not_hexadecimal word wrong_length =
    if list_all is_hex_digit word then wrong_length else NotHexadecimal

-- a hexadecimal number: 1 to 8 digits and nothing else
abbrev pub digits_of : List ℕ → Option ℕ
digits_of word =
    if nat_lt 0 (length word) && nat_le (length word) 8 then hexadecimal_value word else None

abbrev pub hexadecimal_of : List ℕ → Result ℕ Fault
hexadecimal_of word = ok_or (digits_of word) (not_hexadecimal word LongRegister)

-- a byte: exactly two hexadecimal digits
abbrev pub two_digits_of : List ℕ → Option ℕ
two_digits_of (high ∷ low ∷ []) =
    option_and_then (λ h. option_and_then (λ l. Some (16 * h + l)) (hex_digit_of low)) (hex_digit_of high)
two_digits_of _ = None

abbrev pub byte_of : List ℕ → Result ℕ Fault
byte_of word = ok_or (two_digits_of word) (not_hexadecimal word NotTwoDigits)
