-- Which journals can come about on a port of a disk with so many sectors and so many slots
-- (AHCI 1.3.1, "Native Command Queuing" and section 6.2.2; ACS-3, READ and WRITE FPDMA QUEUED, DATA SET MANAGEMENT).
use Rattle.std.specs.Prelude.{◌≡◌, ℕ, ◌+◌, ◌*◌, ◌/◌, ◌^◌, ◌<◌, ◌≤◌, max, true, false, List, [], ◌∷◌, length, IsSomeAnd, IsTrue, All}
use Rattle.ncq_journal.specs.declared.phase.Phase.{Phase}
use Rattle.ncq_journal.specs.declared.phase.Phase.TheVariants.{Free, Issued, Accepted, Held, Done}
use Rattle.ncq_journal.specs.declared.plain.Plain.{Plain}
use Rattle.ncq_journal.specs.declared.plain.Plain.TheVariants.{Identify, Flush, ReadLog}
use Rattle.ncq_journal.specs.Entry.{Entry, Issue, Accept, Complete, Fail, Recover, Reissue, Collect, Unqueued, Zero}
use Rattle.ncq_journal.specs.Halted.{halted, busy}
use Rattle.ncq_journal.specs.Image.{covers}
use Rattle.ncq_journal.specs.Phase.{phase, is_failed}
use Rattle.ncq_journal.specs.Request.{request}
use Rattle.ncq_journal.specs.Work.{Work, Read, Write, lba_of, sectors_of}

-- the most sectors of one command
abbrev pub most_sectors : ℕ
most_sectors = 65536

-- the bytes of a write are whole sectors
abbrev pub IsWhole : Work → Type 0
IsWhole (Read lba sectors) = Unit {0}
IsWhole (Write lba bytes) = length bytes ≡ 512 * (length bytes / 512)

-- a command that can be issued: 1 to 65,536 whole sectors from a 48-bit LBA on
pub record IsProper (work : Work) : Type 0 where
  pub some : 1 ≤ sectors_of work
  pub most : sectors_of work ≤ most_sectors
  pub lba : lba_of work < 2 ^ 48
  pub whole : IsWhole work

-- the first sector after the command's last
abbrev pub end_of : Work → ℕ
end_of work = lba_of work + sectors_of work

-- the command ends at the disk's last sector or before it
abbrev pub Fits : ℕ → Work → Type 0
Fits s work = end_of work ≤ s

-- a device may refuse the command in this way: its end is past the disk's last sector, and the error is IDNF (10h)
-- at the first of its sectors that the disk lacks
abbrev pub Refuses : ℕ → Work → ℕ → ℕ → Type 0
Refuses s work error lba = (s < end_of work) × (error ≡ 0x10) × (lba ≡ max (lba_of work) s)

-- the device may fail a command in this phase, with this error at this LBA: any error at one of its sectors
-- once it is accepted, and before that only where it passes the last sector
abbrev pub Fails : ℕ → Phase → Work → ℕ → ℕ → Type 0
Fails s Accepted work error lba = IsTrue (covers work lba)
Fails s Issued work error lba = Refuses s work error lba
Fails s p work error lba = ⊥

-- a READ LOG EXT has no entry of its own
abbrev pub IsJournalled : Plain → Type 0
IsJournalled Identify = Unit {0}
IsJournalled Flush = Unit {0}
IsJournalled ReadLog = ⊥

-- the tag may be issued for this command, on a port of d slots
abbrev pub MayIssue : ℕ → List Entry → ℕ → Work → Type 0
MayIssue d past t work = (t < d) × (phase past t ≡ Free) × (halted past ≡ false) × IsProper work

-- the device may accept the tag's command, on a disk of s sectors
abbrev pub MayAccept : ℕ → List Entry → ℕ → Type 0
MayAccept s past t = (phase past t ≡ Issued) × (halted past ≡ false) × IsSomeAnd (request past t) (λ r. Fits s r.work)

-- the device may fail the tag's command, on a disk of s sectors
abbrev pub MayFail : ℕ → List Entry → ℕ → ℕ → ℕ → Type 0
MayFail s past t error lba = (halted past ≡ false) × IsSomeAnd (request past t) (λ r. Fails s (phase past t) r.work error lba)

-- a command that is not queued may be sent: the port runs, and no tag waits for the device or is outstanding in it
abbrev pub MaySend : List Entry → Type 0
MaySend past = (halted past ≡ false) × (busy past ≡ false)

-- so many sectors from an LBA on, at least one, are sectors of a disk of s sectors
abbrev pub LieOn : (s lba sectors : ℕ) → Type 0
LieOn s lba sectors = (1 ≤ sectors) × (lba + sectors ≤ s)

-- this entry may come next after the journal, on a disk of s sectors with d slots
abbrev pub IsAllowed : ℕ → ℕ → List Entry → Entry → Type 0
IsAllowed s d past (Issue t work) = MayIssue d past t work
IsAllowed s d past (Accept t) = MayAccept s past t
IsAllowed s d past (Complete t) = (phase past t ≡ Accepted) × (halted past ≡ false)
IsAllowed s d past (Fail t error lba) = MayFail s past t error lba
IsAllowed s d past (Recover t) = is_failed (phase past t) ≡ true
IsAllowed s d past (Reissue t) = (phase past t ≡ Held) × (halted past ≡ false)
IsAllowed s d past (Collect t) = phase past t ≡ Done
IsAllowed s d past (Unqueued command) = IsJournalled command × MaySend past
IsAllowed s d past (Zero lba sectors) = LieOn s lba sectors × MaySend past

-- each entry was allowed by those before it
abbrev pub IsLawful : ℕ → ℕ → List Entry → Type 0
IsLawful s d [] = Unit {0}
IsLawful s d (entry ∷ past) = IsLawful s d past × IsAllowed s d past entry

-- an entry that issues a command issues one that can be issued
abbrev pub IsProperEntry : Entry → Type 0
IsProperEntry (Issue t work) = IsProper work
IsProperEntry entry = Unit {0}

-- every command of the journal is one that can be issued
abbrev pub AllProper : List Entry → Type 0
AllProper past = All IsProperEntry past
