use Rattle.device_choice.proofs.LawsLemmas.{are_of_the_set, are_distinct}
use Rattle.device_choice.proofs.laws.a_turn_has_tags_of_the_set_once.Goals as goal

pub returns-clause-set : goal.returns-clause-set
returns-clause-set c = are_of_the_set

pub returns-clause-once : goal.returns-clause-once
returns-clause-once c = are_distinct
