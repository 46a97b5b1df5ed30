-- Bytes as a script spells them: two hexadecimal digits each, the high one first.
use Rattle.std.specs.Prelude.{ℕ, ◌+◌, ◌*◌, ◌%◌, List, [], ◌∷◌, Option, Some, None, Result, length, nat_eq, nat_lt, ◌&&◌, option_and_then, if◌then◌else◌}
use Rattle.std.specs.List.{list_all}
use Rattle.std.specs.Option.{ok_or, unwrap_or}
use Rattle.ahci_script.specs.Number.{hex_digit_of, is_hex_digit, not_hexadecimal}
use Rattle.ahci_script.specs.declared.fault.Fault.{Fault}
use Rattle.ahci_script.specs.declared.fault.Fault.TheVariants.{NotSixtyFourDigits, OddDigits}

-- the value of a hexadecimal digit, and 0 for any other letter
abbrev pub hex_digit_value : ℕ → ℕ
hex_digit_value letter = unwrap_or (hex_digit_of letter) 0

-- the bytes that digits spell
abbrev pub pairs_of : List ℕ → List ℕ
pairs_of (high ∷ low ∷ rest) = (16 * hex_digit_value high + hex_digit_value low) ∷ pairs_of rest
pairs_of _ = []

-- bytes, one at least: an even number of hexadecimal digits and nothing else
abbrev pub some_bytes_of : List ℕ → Option (List ℕ)
some_bytes_of word =
    if nat_lt 0 (length word) && nat_eq (length word % 2) 0 && list_all is_hex_digit word then Some (pairs_of word) else None

abbrev pub hex_bytes_of : List ℕ → Result (List ℕ) Fault
hex_bytes_of word = ok_or (some_bytes_of word) (not_hexadecimal word OddDigits)

-- the 32 bytes of a command header
abbrev pub some_header_of : List ℕ → Option (List ℕ)
some_header_of word = option_and_then (λ bytes. if nat_eq (length bytes) 32 then Some bytes else None) (some_bytes_of word)

abbrev pub header_of : List ℕ → Result (List ℕ) Fault
header_of word = ok_or (some_header_of word) (not_hexadecimal word NotSixtyFourDigits)
