use Rattle.std.proofs.Common.{◌≡◌, true, arith, codes, rules}
use Rattle.std.proofs.Output.{has_written_of_eq}
use Rattle.std.specs.Fmt.{HasWritten}
use Rattle.ata_pages.specs.LogText.{is_told}
use Rattle.ata_pages.proofs.LineLemmas.{byte_line_is, written_line}
use Rattle.ata_pages.proofs.byte_lines.ByteLineDisplay.fmt.Goals as goal

pub returns-clause-writes : goal.returns-clause-writes
returns-clause-writes g c = λ plain ok.
    let number = c.args.self.now.number in
    let value = c.args.self.now.value in
    let name = c.byte_name-name.result.now in
    let told : is_told number value ≡ true = search rules in
    let wrote : HasWritten g.W.Write.write_str_gives c.args.f.now (written_line (codes "byte ") number 2 value name) c.writeln.new.self =
    search rules in
    has_written_of_eq _ _ _ _ _ (byte_line_is number value name c.args.self.now.inside (omega arith) told c.byte_name-name.ensures) wrote
