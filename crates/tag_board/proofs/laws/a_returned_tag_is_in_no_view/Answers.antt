use Rattle.tag_board.proofs.LawLemmas.{free_in_no_view}
use Rattle.tag_board.proofs.laws.a_returned_tag_is_in_no_view.Goals as goal

pub returns : goal.returns
returns c = free_in_no_view
