use Rattle.ahci_hba.proofs.StepTransitionLemmas.{takes_steps}
use Rattle.ahci_hba.proofs.laws.a_step_takes_transitions.Goals as goal

pub returns : goal.returns
returns g c = λ journal t. takes_steps c.args.step c.args.slot c.args.old.now c.args.new.now journal t
