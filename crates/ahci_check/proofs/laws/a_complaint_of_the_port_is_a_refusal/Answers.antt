use Rattle.ahci_check.proofs.RefusedLemmas.{port_refuses}
use Rattle.ahci_check.proofs.laws.a_complaint_of_the_port_is_a_refusal.Goals as goal

pub returns : goal.returns
returns c = port_refuses
