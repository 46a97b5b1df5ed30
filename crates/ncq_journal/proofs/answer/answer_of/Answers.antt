use Rattle.ncq_journal.proofs.AnswerLemmas.{proper_first}
use Rattle.ncq_journal.proofs.answer.answer_of.Goals as goal

pub answer_after-requires : goal.answer_after-requires
answer_after-requires g c = proper_first c.args.events.now c.loop-entry.entry c.requires
