use Rattle.tag_board.proofs.LawLemmas.{free_or_held_once, none_from_depth}
use Rattle.tag_board.proofs.laws.a_tag_is_free_or_in_exactly_one_view.Goals as goal

pub returns-clause-below : goal.returns-clause-below
returns-clause-below c = free_or_held_once

pub returns-clause-past : goal.returns-clause-past
returns-clause-past c = none_from_depth
