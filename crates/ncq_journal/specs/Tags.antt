-- The sets of tags that software and the device hold, by the journal (AHCI 1.3.1, sections 3.3.13 and 3.3.14,
-- "Native Command Queuing" and section 6.2.2). A set is 32 truth values, one for each tag.
use Rattle.std.specs.Prelude.{Bool, true, false, not, ◌&&◌, List}
use Rattle.word_bits.specs.Places.{places}
use Rattle.ncq_journal.specs.declared.phase.Phase.{Phase}
use Rattle.ncq_journal.specs.declared.phase.Phase.TheVariants.{Issued, Accepted, Rejected, Broken}
use Rattle.ncq_journal.specs.Entry.{Entry}
use Rattle.ncq_journal.specs.Halted.{halted}
use Rattle.ncq_journal.specs.Phase.{phase}

-- the command was issued, and the device has not completed it
abbrev pub in_sact : Phase → Bool
in_sact Issued = true
in_sact Accepted = true
in_sact Rejected = true
in_sact Broken = true
in_sact p = false

-- the command was issued, and the device has not taken it
abbrev pub in_ci : Phase → Bool
in_ci Issued = true
in_ci Rejected = true
in_ci p = false

-- the device has taken the command
abbrev pub in_device : Phase → Bool
in_device Accepted = true
in_device p = false

-- PxSACT
abbrev pub sact : List Entry → List Bool
sact past = places (λ tag. in_sact (phase past tag))

-- PxCI
abbrev pub ci : List Entry → List Bool
ci past = places (λ tag. in_ci (phase past tag))

-- the tags outstanding in the device, which an error empties
abbrev pub device_tags : List Entry → List Bool
device_tags past = places (λ tag. in_device (phase past tag) && not (halted past))
