use Rattle.std.proofs.Common.{◌<◌, ◌≤◌, ◌^◌, take}
use Rattle.ahci_script.proofs.PrintingLemmas.{Digits}
use Rattle.ahci_script.proofs.short_number.short_decimal.Given as goal

-- the bytes so far are the digits of the value
abbrev pub invariant-loop-at : goal.invariant-loop-at
invariant-loop-at l = (l.at ≤ 19) × (l.value < 10 ^ l.at) × Digits l.value (take l.at l.text)
