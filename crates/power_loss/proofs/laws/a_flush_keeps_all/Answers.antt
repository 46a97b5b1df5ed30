use Rattle.power_loss.proofs.LawLemmas.{flushes}
use Rattle.power_loss.proofs.laws.a_flush_keeps_all.Goals as goal

pub returns : goal.returns
returns c = flushes
