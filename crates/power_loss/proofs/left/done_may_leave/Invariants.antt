-- the bytes so far are those after the events so far, and it is known whether these leave the bytes in question
use Rattle.std.proofs.Common.{◌≡◌, ◌↔◌, IsTrue, take}
use Rattle.ncq_journal.specs.History.{history_of}
use Rattle.power_loss.specs.Leaving.{DoneMayLeave, sector_from}
use Rattle.power_loss.proofs.left.done_may_leave.Given as goal

abbrev pub invariant-loop-number : goal.invariant-loop-number
invariant-loop-number g l =
    (l.now ≡ sector_from l.fn.was (history_of (take l.number l.events)) l.lba)
    × (IsTrue l.may ↔ DoneMayLeave l.fn.was (history_of (take l.number l.events)) l.lba l.bytes)
