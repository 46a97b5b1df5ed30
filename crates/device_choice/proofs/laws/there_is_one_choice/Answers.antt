use Rattle.device_choice.proofs.LawsLemmas.{names_one_tag, is_one_turn}
use Rattle.device_choice.proofs.laws.there_is_one_choice.Goals as goal

pub returns-clause-tag : goal.returns-clause-tag
returns-clause-tag c = names_one_tag

pub returns-clause-turn : goal.returns-clause-turn
returns-clause-turn c = is_one_turn
