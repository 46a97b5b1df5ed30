use Rattle.tag_board.proofs.LawLemmas.{held_alone}
use Rattle.tag_board.proofs.laws.a_claimed_tag_is_in_no_other_view.Goals as goal

pub returns : goal.returns
returns c = held_alone
