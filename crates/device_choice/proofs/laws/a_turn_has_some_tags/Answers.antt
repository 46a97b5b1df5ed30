use Rattle.device_choice.proofs.LawsLemmas.{are_few, are_some}
use Rattle.device_choice.proofs.laws.a_turn_has_some_tags.Goals as goal

pub returns-clause-most : goal.returns-clause-most
returns-clause-most c = are_few

pub returns-clause-some : goal.returns-clause-some
returns-clause-some c = are_some
