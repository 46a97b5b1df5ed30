use Rattle.power_loss.proofs.LawLemmas.{zeros_kept}
use Rattle.power_loss.proofs.laws.a_flush_keeps_zeros.Goals as goal

pub returns : goal.returns
returns c = zeros_kept
