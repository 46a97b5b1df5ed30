use Rattle.streams.proofs.FoundLemmas.{if_err_from}
use Rattle.ahci_check.specs.Reports.{EndsCheck}
use Rattle.ahci_check.specs.declared.check_fault.CheckFault.TheVariants.{OutOfMemory}
use Rattle.ahci_check.proofs.ReportLemmas.{nothing_checked}
use Rattle.ahci_check.proofs.whole_check.check_with.Goals as goal

pub returns-in_err-reports-clause-err : goal.returns-in_err-reports-clause-err
returns-in_err-reports-clause-err g c =
    if_err_from _ OutOfMemory (EndsCheck c.args.form c.args.judge _ _ _ _) c.from_residual.ensures.1 (nothing_checked c.args.form c.args.judge _ _)

pub returns-in_err-texts-clause-err : goal.returns-in_err-texts-clause-err
returns-in_err-texts-clause-err g c =
    if_err_from _ OutOfMemory (EndsCheck c.args.form c.args.judge _ _ _ _) c.from_residual-in_err-texts.ensures.1 (nothing_checked c.args.form c.args.judge _ _)
