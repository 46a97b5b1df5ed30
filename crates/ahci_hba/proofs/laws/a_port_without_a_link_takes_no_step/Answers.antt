-- Each step wants a link that is up.
use Rattle.ahci_hba.proofs.LawLemmas.{down_takes_none}
use Rattle.ahci_hba.proofs.laws.a_port_without_a_link_takes_no_step.Goals as goal

pub returns : goal.returns
returns g c = λ slot. down_takes_none c.args.hba.now slot c.requires
