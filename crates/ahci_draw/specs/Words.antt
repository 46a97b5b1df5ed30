-- An entry of the journal in words. No byte of them is one that XML reads as more than itself.
use Rattle.std.specs.Prelude.{ℕ, List, ◌∷◌, ◌++◌, codes}
use Rattle.std.specs.Fmt.{decimal}
use Rattle.streams.specs.Text.{hex_of}
use Rattle.ncq_journal.specs.Entry.{Entry, Issue, Accept, Complete, Fail, Recover, Reissue, Collect, Unqueued, Zero}
use Rattle.ncq_journal.specs.Work.{Work, Read, Write, lba_of, sectors_of}
use Rattle.ncq_journal.specs.declared.plain.Plain.{Plain}
use Rattle.ncq_journal.specs.declared.plain.Plain.TheVariants.{Identify, Flush, ReadLog}
use Rattle.ahci_draw.specs.Text.{numbered}

abbrev pub direction : Work → List ℕ
direction (Read lba sectors) = codes ": read, tag "
direction (Write lba bytes) = codes ": write, tag "

-- the titles of ACS-3
abbrev pub plain_words : Plain → List ℕ
plain_words Identify = codes ": IDENTIFY DEVICE"
plain_words Flush = codes ": FLUSH CACHE EXT"
plain_words ReadLog = codes ": READ LOG EXT"

-- a queued command: its tag, its first sector and how many there are
unfoldable pub issue_words : ℕ → Work → List ℕ
issue_words tag work = numbered (direction work) tag ++ (numbered (codes ", LBA ") (lba_of work) ++ numbered (codes ", sectors ") (sectors_of work))

-- a failure: the error register's byte, the tag and the failing sector
unfoldable pub failure_words : ℕ → ℕ → ℕ → List ℕ
failure_words tag error lba = codes ": error" ++ ((32 ∷ hex_of 2 error) ++ (numbered (codes "h, tag ") tag ++ numbered (codes ", LBA ") lba))

-- DATA SET MANAGEMENT with TRIM: the first sector and how many become zeros
unfoldable pub zero_words : (lba sectors : ℕ) → List ℕ
zero_words lba sectors = numbered (codes ": DATA SET MANAGEMENT, LBA ") lba ++ numbered (codes ", sectors ") sectors

abbrev pub entry_words : Entry → List ℕ
entry_words (Issue tag work) = issue_words tag work
entry_words (Accept tag) = numbered (codes ": accept, tag ") tag
entry_words (Complete tag) = numbered (codes ": complete, tag ") tag
entry_words (Fail tag error lba) = failure_words tag error lba
entry_words (Recover tag) = numbered (codes ": recover, tag ") tag
entry_words (Reissue tag) = numbered (codes ": issue again, tag ") tag
entry_words (Collect tag) = numbered (codes ": collect, tag ") tag
entry_words (Unqueued command) = plain_words command
entry_words (Zero lba sectors) = zero_words lba sectors

-- the entry's number, and the entry
unfoldable pub title_text : ℕ → Entry → List ℕ
title_text number entry = decimal number ++ entry_words entry
