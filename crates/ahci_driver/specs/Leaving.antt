-- How the workers of a run leave its port.
use Rattle.std.specs.Prelude.{◌≡◌, Bool, true, false}
use Rattle.std.specs.List.{list_all}
use Rattle.ncq_journal.specs.Entry.{Entry, Unqueued, Zero}
use Rattle.ncq_journal.specs.Laws.{AllFree}
use Rattle.ahci_port.specs.PortView.{PortView}

-- the calls of a worker add such an entry: all but those of commands that are not queued
abbrev pub is_queued : Entry → Bool
is_queued (Unqueued command) = false
is_queued (Zero lba sectors) = false
is_queued entry = true

-- the journal has only entries that the calls of workers add, and every slot is free
pub record IsLeft (port : PortView) : Type 0 where
  pub queued : list_all is_queued port.past ≡ true
  pub free : AllFree port.past
