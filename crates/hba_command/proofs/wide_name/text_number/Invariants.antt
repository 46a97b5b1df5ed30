-- the number so far
use Rattle.std.proofs.Common.{◌≡◌, ◌<◌, ◌^◌, take}
use Rattle.hba_command.specs.WideName.{text_number}
use Rattle.hba_command.proofs.wide_name.text_number.Given as goal

abbrev pub invariant-loop-character : goal.invariant-loop-character
invariant-loop-character l = (l.number ≡ text_number l.before (take l.character-index l.text)) × (l.number < 2 ^ 60)
