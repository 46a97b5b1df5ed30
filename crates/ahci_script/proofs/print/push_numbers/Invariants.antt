-- The first numbers are appended.
use Rattle.std.proofs.Common.{◌≡◌, ◌++◌, take}
use Rattle.ahci_script.specs.Answers.{numbers_text}
use Rattle.ahci_script.proofs.print.push_numbers.Given as goal

abbrev pub invariant-loop-number : goal.invariant-loop-number
invariant-loop-number g l = l.text.bytes ≡ l.initial.text.bytes ++ numbers_text (take l.number-index l.numbers)
