use Rattle.std.proofs.Common.{refl}
use Rattle.std.proofs.Output.{has_written_append, has_written_of_eq}
use Rattle.ata_pages.proofs.LineLemmas.{identify_text_is}
use Rattle.ata_pages.proofs.identify_text.IdentifyTextDisplay.fmt.Goals as goal

pub returns-clause-writes : goal.returns-clause-writes
returns-clause-writes g c = λ plain ok.
    let one = c.in_ok-writeln.ensures.writes plain refl in
    let two = c.in_ok-writeln-2.ensures.writes one.plain refl in
    let three = c.in_ok-writeln-3.ensures.writes two.plain refl in
    let four = c.in_ok-write.ensures.writes three.plain refl in
    let five = c.write_str.ensures.writes four.plain ok in
    has_written_of_eq _ _ _ _ _ (identify_text_is c.args.self.now.0)
    (has_written_append _ _ _ _ _ _ (has_written_append _ _ _ _ _ _ (has_written_append _ _ _ _ _ _ (has_written_append _ _ _ _ _ _ one two) three) four) five)
