-- A journal given as structs: which events may follow which, with no port (AHCI 1.3.1, "Native Command Queuing" and section 6.2.2).
use Rattle.std.specs.Prelude.{◌≡◌, ℕ, ◌<◌, ◌≤◌, ◌==◌, ◌↔◌, nat_le, nat_lt, List, map, reverse, if◌then◌else◌}
use Rattle.std.specs.List.{All}
use Rattle.ncq_journal.specs.Entry.{Entry, Issue}
use Rattle.ncq_journal.specs.EventKind.{HasLowTag, IsFirstUnlawful, journal_of, kind_of}
use Rattle.ncq_journal.specs.Lawful.{IsLawful, IsWhole}
use Rattle.ncq_journal.specs.declared.event_kind.EventKind.{EventKind}
use Rattle.ncq_journal.specs.declared.event_kind.EventKind.TheVariants as kind
use Rattle.ncq_journal.specs.declared.plain.Plain.TheVariants.{Identify, Flush, ReadLog}
use Rattle.ahci_ffi.specs.Alone.{depth_refusal}
use Rattle.ahci_ffi.specs.Asked.{AnswersUnless}
use Rattle.ahci_ffi.specs.Flat.{flat_entry}
use Rattle.ahci_ffi.specs.declared.flat.FlatEntry.{FlatEntry}
use Rattle.ahci_ffi.specs.declared.status.Status.{Status}
use Rattle.ahci_ffi.specs.declared.status.Status.TheVariants as status

-- what names no event is as an event that no journal has
abbrev pub nameless : EventKind
nameless = kind.Plain ReadLog

-- the event of each kind that names a tag. An error is one byte
abbrev pub tagged : FlatEntry → (tag : ℕ) → EventKind
tagged e tag =
    if nat_le e.kind 1 then kind.Issue tag (e.kind == 1) e.lba e.sectors
    else (if e.kind == 2 then kind.Accept tag
    else (if e.kind == 3 then kind.Complete tag
    else (if e.kind == 4 then (if nat_lt e.error 256 then kind.Fail tag e.error e.lba else nameless)
    else (if e.kind == 5 then kind.Recover tag
    else (if e.kind == 6 then kind.Reissue tag
    else (if e.kind == 7 then kind.Collect tag else nameless))))))

-- the event that a struct names, with a tag below 32 where its kind has one
abbrev pub kind_named : FlatEntry → EventKind
kind_named e =
    if e.kind == 8 then kind.Plain Identify
    else (if e.kind == 9 then kind.Plain Flush
    else (if e.kind == 11 then kind.Zero e.lba e.sectors
    else (if nat_lt e.tag 32 then tagged e e.tag else nameless)))

-- an error is one byte
abbrev pub HasByteError : EventKind → Type 0
HasByteError (kind.Fail tag error lba) = error < 256
HasByteError other = Unit {0}

-- the struct of an entry names the entry's event
abbrev pub DoEntriesNameTheirEvents : Type 0
DoEntriesNameTheirEvents = (e : Entry) → HasLowTag (kind_of e) → HasByteError (kind_of e) → kind_named (flat_entry e) ≡ kind_of e

-- a write's bytes are whole sectors
abbrev pub IsWholeEntry : Entry → Type 0
IsWholeEntry (Issue tag work) = IsWhole work
IsWholeEntry entry = Unit {0}

-- the struct of an entry has all of the entry but a write's bytes
abbrev pub IsNameable : Entry → Type 0
IsNameable entry = HasByteError (kind_of entry) × IsWholeEntry entry

-- a list of entries, the oldest first, is a lawful journal exactly if its structs are judged to be one
abbrev pub AreEntriesJudged : Type 0
AreEntriesJudged =
    (s d : ℕ) (entries : List Entry) → d ≤ 32 → All IsNameable (reverse entries)
    → IsLawful s d (reverse entries) ↔ IsLawful s d (journal_of kind_named (map flat_entry entries))

-- events were looked at: all are lawful; or the place of the first that can't come where it is
pub data AnswersEvents (s d : ℕ) (events : List FlatEntry) (answer : Status) (before after : ℕ) : Type 0 where
  is_lawful : answer ≡ status.Done → IsLawful s d (journal_of kind_named events) → after ≡ before → AnswersEvents s d events answer before after
  is_bad : answer ≡ status.NotAllowed → IsFirstUnlawful kind_named s d events after → AnswersEvents s d events answer before after

-- the depth is looked at first
abbrev pub AnswersJournal : (s d : ℕ) → List FlatEntry → Status → (before after : ℕ) → Type 0
AnswersJournal s d events answer before after = AnswersUnless (depth_refusal d) answer (AnswersEvents s d events answer before after) (after ≡ before)
