use Rattle.ahci_draw.proofs.PlainLemmas.{closed_before}
use Rattle.ahci_draw.proofs.laws.a_picture_before_a_fault_is_closed.Goals as goal

pub returns : goal.returns
returns c = closed_before
