use Rattle.std.proofs.Common.{◌∙◌}
use Rattle.clap.specs.Words.{found_of, one_of, rows_of}
use Rattle.clap.proofs.WalkLemmas.{one_text-rows}
use Rattle.ahci_args.proofs.AskedLemmas.{flag_read}
use Rattle.ahci_args.proofs.parse.flag.Goals as goal

pub returns : goal.returns
returns c =
    let found = found_of c.args.options.now in
    let same = one_text-rows found c.args.name.now in
    flag_read (one_of c.args.name.now (rows_of found)) c.requires.0 c.get_flag.result c.requires.1 (λ is. c.get_flag.ensures.value (same ∙ is)) (λ is. c.get_flag.ensures.other (same ∙ is))
