use Rattle.power_loss.proofs.LawLemmas.{zeros_lost}
use Rattle.power_loss.proofs.laws.zeros_may_be_lost.Goals as goal

pub returns : goal.returns
returns c = zeros_lost
