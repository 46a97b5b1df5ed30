-- The error condition of the device after a journal.
use Rattle.std.specs.Prelude.{List, [], ◌∷◌, Option, None, Some, if◌then◌else◌}
use Rattle.ncq_core.specs.DiskState.{DiskError}
use Rattle.ncq_journal.specs.Entry.{Entry, Fail}
use Rattle.ncq_journal.specs.Halted.{halted}

-- the last Fail
abbrev pub last_failure : List Entry → Option DiskError
last_failure [] = None
last_failure (Fail tag error lba ∷ past) = Some (record { tag = tag; error = error; lba = lba })
last_failure (entry ∷ past) = last_failure past

-- it lasts until the port recovers
abbrev pub standing : List Entry → Option DiskError
standing past = if halted past then last_failure past else None
