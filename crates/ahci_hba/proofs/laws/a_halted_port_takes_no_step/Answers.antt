-- Each step wants a port that processes commands.
use Rattle.ahci_hba.proofs.LawLemmas.{halted_takes_none}
use Rattle.ahci_hba.proofs.laws.a_halted_port_takes_no_step.Goals as goal

pub returns : goal.returns
returns g c = λ slot. halted_takes_none c.args.hba.now slot c.requires
