-- What a tag's command has come to after a journal (AHCI 1.3.1, "Native Command Queuing" and section 6.2.2).
use Rattle.std.specs.Prelude.{ℕ, ◌==◌, if◌then◌else◌, Bool, true, false, List, [], ◌∷◌}
use Rattle.ncq_journal.specs.declared.phase.Phase.{Phase}
use Rattle.ncq_journal.specs.declared.phase.Phase.TheVariants.{Free, Issued, Accepted, Rejected, Broken, Held, Done}
use Rattle.ncq_journal.specs.Entry.{Entry, Issue, Accept, Complete, Fail, Recover, Reissue, Collect, Unqueued, Zero}

-- an error before acceptance rejects the command, and one after it breaks it
abbrev pub failed : Phase → Phase
failed Issued = Rejected
failed p = Broken

-- a recovery answers the failed command, and holds those that the error ended
abbrev pub recovered : Phase → Phase
recovered Rejected = Done
recovered Broken = Done
recovered Issued = Held
recovered Accepted = Held
recovered p = p

-- the phase of a tag after one more entry
abbrev pub phase_after : ℕ → Phase → Entry → Phase
phase_after tag p (Issue t work) = if t == tag then Issued else p
phase_after tag p (Reissue t) = if t == tag then Issued else p
phase_after tag p (Accept t) = if t == tag then Accepted else p
phase_after tag p (Complete t) = if t == tag then Done else p
phase_after tag p (Fail t error lba) = if t == tag then failed p else p
phase_after tag p (Recover t) = recovered p
phase_after tag p (Collect t) = if t == tag then Free else p
phase_after tag p (Unqueued command) = p
phase_after tag p (Zero lba sectors) = p

-- the phase of a tag after a journal; at first every tag is free
abbrev pub phase : List Entry → ℕ → Phase
phase [] tag = Free
phase (entry ∷ past) tag = phase_after tag (phase past tag) entry

-- the command failed, and the port has not recovered
abbrev pub is_failed : Phase → Bool
is_failed Rejected = true
is_failed Broken = true
is_failed p = false

-- the command waits for the device or is outstanding in it
abbrev pub is_busy : Phase → Bool
is_busy Issued = true
is_busy Accepted = true
is_busy p = false
