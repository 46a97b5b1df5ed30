use Rattle.ncq_core.proofs.PageLemmas.{log_adds_up}
use Rattle.ncq_core.proofs.laws.a_log_page_adds_up_to_zero.Goals as goal

pub returns : goal.returns
returns c = log_adds_up
