-- How many entries the requests of a journal still need until each is collected, if no further error comes.
use Rattle.std.specs.Prelude.{ℕ, List}
use Rattle.std.specs.List.{sum_by}
use Rattle.ncq_journal.specs.declared.phase.Phase.{Phase}
use Rattle.ncq_journal.specs.declared.phase.Phase.TheVariants.{Free, Issued, Accepted, Rejected, Broken, Held, Done}
use Rattle.ncq_journal.specs.Entry.{Entry}
use Rattle.ncq_journal.specs.Halted.{tags}
use Rattle.ncq_journal.specs.Phase.{phase}

-- a held command needs Reissue, Accept, Complete and Collect; an issued one the last three of these; and so on
abbrev pub owed_in : Phase → ℕ
owed_in Free = 0
owed_in Issued = 3
owed_in Accepted = 2
owed_in Rejected = 1
owed_in Broken = 1
owed_in Held = 4
owed_in Done = 1

-- the entries that all tags can still need
abbrev pub owed : List Entry → ℕ
owed past = sum_by (λ tag. owed_in (phase past tag)) tags
