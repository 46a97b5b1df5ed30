use Rattle.hba_regs.proofs.LawLemmas.{written_back}
use Rattle.hba_regs.proofs.laws.a_register_can_be_written_back.Goals as goal

pub returns : goal.returns
returns c =
    let k = c.keeps_its_rules.ensures in
    written_back c.args.regs.now c.args.register c.requires.ones c.requires.halted k.port k.words k.reports
