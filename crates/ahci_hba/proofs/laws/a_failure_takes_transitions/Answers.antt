use Rattle.ahci_hba.specs.Failing.{own_in}
use Rattle.ahci_hba.proofs.StepTransitionLemmas.{ends_at, fails}
use Rattle.ahci_hba.proofs.laws.a_failure_takes_transitions.Goals as goal

pub returns-clause-failed : goal.returns-clause-failed
returns-clause-failed g c = λ error lba f. fails c.args.slot error lba (own_in c.args.old.now c.args.slot lba) c.args.old.now c.args.new.now f

pub returns-clause-ended : goal.returns-clause-ended
returns-clause-ended g c = λ status error lba. ends_at c.args.old.now c.args.slot status error lba
