use Rattle.std.proofs.Common.{◌≡◌, ◌<◌, ◌^◌, drop, fold}
use Rattle.ahci_script.specs.Number.{decimal_value, with_digit}
use Rattle.ahci_script.proofs.number.value.Given as goal

-- the value so far fits, and taken on through the digits that are left it is that of all digits
abbrev pub invariant-loop-digit : goal.invariant-loop-digit
invariant-loop-digit l =
    (l.value < 2 ^ 64) × (fold with_digit l.value (drop l.digit-index l.digits) ≡ decimal_value l.digits)
