use Rattle.std.proofs.Common.{sym, arith}
use Rattle.ncq_journal.specs.History.{history_of}
use Rattle.ncq_journal.proofs.HaltedLemmas.{not_halted}
use Rattle.ncq_journal.proofs.halted.is_halted.Goals as goal

pub returns : goal.returns
returns g c = sym (not_halted (history_of c.args.events.now) (λ t h. c.loop-tag.invariant t (omega arith)))
