-- the bytes so far are those after the events so far
use Rattle.std.proofs.Common.{◌≡◌, take}
use Rattle.ncq_journal.specs.History.{history_of}
use Rattle.ncq_journal.specs.Sector.{sector}
use Rattle.ncq_journal.proofs.sector.sector_of.Given as goal

abbrev pub invariant-loop-number : goal.invariant-loop-number
invariant-loop-number g l = l.bytes ≡ sector l.image (history_of (take l.number l.events)) l.lba
