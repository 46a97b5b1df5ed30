use Rattle.ahci_draw.proofs.PlainLemmas.{closed_whole}
use Rattle.ahci_draw.proofs.laws.a_picture_is_closed.Goals as goal

pub returns : goal.returns
returns c = closed_whole
