use Rattle.tag_board.proofs.LawLemmas.{each_tried, tried_once, taken_is_held}
use Rattle.tag_board.proofs.laws.each_tag_was_found_taken_at_a_step_of_its_own.Goals as goal

pub returns-clause-entries : goal.returns-clause-entries
returns-clause-entries c = each_tried

pub returns-clause-no_more : goal.returns-clause-no_more
returns-clause-no_more c = tried_once

pub returns-clause-held : goal.returns-clause-held
returns-clause-held c = taken_is_held
