use Rattle.ahci_script.specs.Said.{said}
use Rattle.ahci_replay.proofs.IssuingLemmas.{told_answer, told_same}
use Rattle.ahci_replay.proofs.issue.issue_window.Goals as goal

pub returns-clause-ok : goal.returns-clause-ok
returns-clause-ok g c =
    let issue = c.issue.ensures in
    told_answer _ _ said c.args.window c.args.port.now c.issue.new.self c.issue.result c.told.result issue.issued issue.taken issue.number issue.fault issue.err c.told.ensures.says

pub returns-clause-err : goal.returns-clause-err
returns-clause-err g c =
    told_same _ _ said c.args.window c.args.port.now c.issue.new.self c.issue.result c.told.result c.issue.ensures.err c.told.ensures.says
