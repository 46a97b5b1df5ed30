-- the lines of the words so far
use Rattle.std.specs.Fmt.{HasWritten, IsPlainFormatter}
use Rattle.ata_pages.specs.IdentifyText.{word_lines}
use Rattle.ata_pages.proofs.word_lines.WordLinesDisplay.fmt.Given as goal

abbrev pub invariant-loop-number : goal.invariant-loop-number
invariant-loop-number g l =
    IsPlainFormatter l.initial.f → HasWritten g.W.Write.write_str_gives l.initial.f (word_lines l.self.page.now l.number) l.f
