use Rattle.power_loss.proofs.LawLemmas.{keeps}
use Rattle.power_loss.proofs.laws.a_disk_may_keep_all.Goals as goal

pub returns : goal.returns
returns c = keeps
