use Rattle.std.proofs.Common.{◌≡◌, ◌<◌, ◌^◌, drop, fold, Some}
use Rattle.ahci_script.specs.Number.{hexadecimal_value, with_hex_digit}
use Rattle.ahci_script.proofs.number.hex_value.Given as goal

-- the value so far has as many digits at most, and taken on through the digits that are left it is that of all
abbrev pub invariant-loop-digit : goal.invariant-loop-digit
invariant-loop-digit l =
    (l.value < 16 ^ l.digit-index) × (fold with_hex_digit (Some l.value) (drop l.digit-index l.digits) ≡ hexadecimal_value l.digits)
