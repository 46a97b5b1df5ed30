-- the request so far is that of the events so far
use Rattle.std.proofs.Common.{◌≡◌, take}
use Rattle.ncq_journal.specs.History.{history_of}
use Rattle.ncq_journal.specs.Request.{request}
use Rattle.ncq_journal.proofs.request.request_of.Given as goal

abbrev pub invariant-loop-number : goal.invariant-loop-number
invariant-loop-number g l = l.request ≡ request (history_of (take l.number l.events)) l.tag
