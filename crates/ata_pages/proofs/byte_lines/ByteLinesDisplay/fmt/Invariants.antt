-- the lines of the bytes so far
use Rattle.std.specs.Fmt.{HasWritten, IsPlainFormatter}
use Rattle.ata_pages.specs.LogText.{byte_lines}
use Rattle.ata_pages.proofs.byte_lines.ByteLinesDisplay.fmt.Given as goal

abbrev pub invariant-loop-number : goal.invariant-loop-number
invariant-loop-number g l =
    IsPlainFormatter l.initial.f → HasWritten g.W.Write.write_str_gives l.initial.f (byte_lines l.self.page.now l.number) l.f
