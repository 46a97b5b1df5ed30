use Rattle.ahci_hba.proofs.CollisionLemmas.{aborts_all, aborts_queue}
use Rattle.ahci_hba.proofs.laws.a_command_under_queued_ones_aborts_them.Goals as goal

pub returns-clause-aborted : goal.returns-clause-aborted
returns-clause-aborted g c = λ action. aborts_all c.args.old.now action c.requires.queued

pub returns-clause-failed : goal.returns-clause-failed
returns-clause-failed g c = λ action list made. aborts_queue c.args.old.now c.args.new.now c.args.slot c.requires.alone c.requires.queued made
