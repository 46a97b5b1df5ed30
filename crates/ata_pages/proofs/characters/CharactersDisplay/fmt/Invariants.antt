-- the characters of the words so far
use Rattle.std.specs.Fmt.{HasWritten, IsPlainFormatter}
use Rattle.ata_pages.specs.IdentifyText.{characters}
use Rattle.ata_pages.proofs.characters.CharactersDisplay.fmt.Given as goal

abbrev pub invariant-loop-i : goal.invariant-loop-i
invariant-loop-i g l =
    IsPlainFormatter l.initial.f → HasWritten g.W.Write.write_str_gives l.initial.f (characters l.self.page.now l.self.first l.i) l.f
