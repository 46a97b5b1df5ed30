-- what is known so far is that of the events so far
use Rattle.std.proofs.Common.{length, take}
use Rattle.ncq_journal.specs.History.{history_of}
use Rattle.ncq_journal.proofs.ClaimLemmas.{IsJudging}
use Rattle.ncq_journal.proofs.answer.claims.claims_hold.Given as goal

abbrev pub invariant-loop-number : goal.invariant-loop-number
invariant-loop-number g l = IsJudging l.image (history_of (take l.number l.events)) (length l.events) l.depth l.now.items l.requests.items l.claims l.holding.items
