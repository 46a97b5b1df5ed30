use Rattle.ncq_journal.proofs.CutLemmas.{answer_of_parts}
use Rattle.ncq_journal.proofs.laws.a_cut_shifts_places_alone.Goals as goal

pub returns-clause-answer : goal.returns-clause-answer
returns-clause-answer c = answer_of_parts
