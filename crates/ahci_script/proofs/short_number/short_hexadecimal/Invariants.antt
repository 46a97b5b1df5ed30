use Rattle.std.proofs.Common.{◌<◌, ◌≤◌, ◌^◌, take}
use Rattle.ahci_script.proofs.ShortLemmas.{HexDigits}
use Rattle.ahci_script.proofs.short_number.short_hexadecimal.Given as goal

-- the bytes so far are the digits of the value
abbrev pub invariant-loop-at : goal.invariant-loop-at
invariant-loop-at l = (l.at ≤ 8) × (l.value < 16 ^ l.at) × HexDigits l.value (take l.at l.text)
