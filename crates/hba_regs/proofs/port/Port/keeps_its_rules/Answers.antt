-- Each set is that of a word.
use Rattle.std.proofs.Common.{subst}
use Rattle.word_bits.proofs.BitsLemmas.{length-bits}
use Rattle.hba_regs.specs.Fields.{port_of}
use Rattle.hba_regs.specs.HbaState.{HasWords}
use Rattle.hba_regs.proofs.port.Port.keeps_its_rules.Goals as goal

pub returns-clause-words : goal.returns-clause-words
returns-clause-words c =
    let a = c.self.inside in
    let w : HasWords (port_of a) = record { is = length-bits a.is; ie = length-bits a.ie; serr = length-bits a.serr; sact = length-bits a.sact; ci = length-bits a.ci } in
    subst HasWords c.self.view_is w
