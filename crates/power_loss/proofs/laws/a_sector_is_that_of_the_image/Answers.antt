use Rattle.power_loss.proofs.LawLemmas.{follows}
use Rattle.power_loss.proofs.laws.a_sector_is_that_of_the_image.Goals as goal

pub returns : goal.returns
returns c = follows
