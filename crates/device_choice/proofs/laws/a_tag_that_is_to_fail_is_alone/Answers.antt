use Rattle.device_choice.proofs.LawsLemmas.{fails_alone}
use Rattle.device_choice.proofs.laws.a_tag_that_is_to_fail_is_alone.Goals as goal

pub returns : goal.returns
returns c = fails_alone
