use Rattle.std.proofs.Common.{refl}
use Rattle.std.proofs.Output.{has_written_append, has_written_of_eq}
use Rattle.ata_pages.proofs.LineLemmas.{log_text_is}
use Rattle.ata_pages.proofs.log_text.LogTextDisplay.fmt.Goals as goal

pub returns-clause-writes : goal.returns-clause-writes
returns-clause-writes g c = λ plain ok.
    let one = c.in_ok-writeln.ensures.writes plain refl in
    let two = c.in_ok-writeln-2.ensures.writes one.plain refl in
    let three = c.in_ok-write.ensures.writes two.plain refl in
    let four = c.write_str.ensures.writes three.plain ok in
    has_written_of_eq _ _ _ _ _ (log_text_is c.args.self.now.0 c.lba-lba.result c.lba-lba.ensures)
    (has_written_append _ _ _ _ _ _ (has_written_append _ _ _ _ _ _ (has_written_append _ _ _ _ _ _ one two) three) four)
