-- What one atomic step of the port adds to its journal. Numbers are tags, errors and LBAs. A command that is not queued
-- is the code's Event::Plain, and one that makes so many sectors from an LBA on zeros (ACS-3, DATA SET MANAGEMENT with TRIM)
-- its Event::Zero.
use Rattle.std.specs.Prelude.{ℕ}
use Rattle.ncq_journal.specs.declared.plain.Plain.{Plain}
use Rattle.ncq_journal.specs.declared.event.Event.{Event}
use Rattle.ncq_journal.specs.declared.event.Event.TheVariants as code
use Rattle.ncq_journal.specs.Work.{Work, work_of}

pub data Entry : Type 0 where
  Issue : (tag : ℕ) (work : Work) → Entry
  Accept : (tag : ℕ) → Entry
  Complete : (tag : ℕ) → Entry
  Fail : (tag error lba : ℕ) → Entry
  Recover : (tag : ℕ) → Entry
  Reissue : (tag : ℕ) → Entry
  Collect : (tag : ℕ) → Entry
  Unqueued : (command : Plain) → Entry
  Zero : (lba sectors : ℕ) → Entry

-- what the code's event records
abbrev pub entry_of : {A : _} → Event A → Entry
entry_of (code.Issue tag op) = Issue tag (work_of op)
entry_of (code.Accept tag) = Accept tag
entry_of (code.Complete tag) = Complete tag
entry_of (code.Fail tag error lba) = Fail tag error lba
entry_of (code.Recover tag) = Recover tag
entry_of (code.Reissue tag) = Reissue tag
entry_of (code.Collect tag) = Collect tag
entry_of (code.Plain command) = Unqueued command
entry_of (code.Zero lba sectors) = Zero lba sectors
