use Rattle.hba_regs.proofs.InterruptLemmas.{pcs_of_serr, prcs_of_serr, ufs_of_serr}
use Rattle.hba_regs.proofs.laws.pcs_and_prcs_are_those_of_pxserr.Goals as goal

pub returns-clause-pcs : goal.returns-clause-pcs
returns-clause-pcs c = let k = c.keeps_its_rules.ensures in pcs_of_serr c.args.regs.now.port k.words.is k.port.is

pub returns-clause-prcs : goal.returns-clause-prcs
returns-clause-prcs c = let k = c.keeps_its_rules.ensures in prcs_of_serr c.args.regs.now.port k.words.is k.port.is

pub returns-clause-ufs : goal.returns-clause-ufs
returns-clause-ufs c = let k = c.keeps_its_rules.ensures in ufs_of_serr c.args.regs.now.port k.words.is k.port.is
