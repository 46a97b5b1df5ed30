-- What a sector may hold once the disk has lost its power, with a volatile write cache (ACS-3, "Volatile write cache", FLUSH CACHE and FLUSH CACHE
-- EXT; DATA SET MANAGEMENT, whose zeros are in the cache as the bytes of a write are). A sector is stored whole or not at all, so each is judged by itself, and a command that failed or was dropped by a reset has stored nothing
-- (profile: ACS-3 promises neither). The journal begins with bytes that are durable: a reset hands it out and is no flush, so whoever asks after one
-- asks of the journal before it, too.
use Rattle.std.specs.Prelude.{◌≡◌, ℕ, ◌<◌, ◌⊎◌, true, List, [], ◌∷◌, IsSomeAnd}
use Rattle.ncq_journal.specs.Entry.{Entry, Complete, Unqueued, Zero}
use Rattle.ncq_journal.specs.Image.{covers, is_within, is_write, written_at, zero_sector, zeroed}
use Rattle.ncq_journal.specs.Phase.{is_busy, phase}
use Rattle.ncq_journal.specs.Request.{Request, request}
use Rattle.ncq_journal.specs.Sector.{completed}
use Rattle.ncq_journal.specs.declared.plain.Plain.TheVariants.{Flush}

-- the bytes of a sector after one more entry
abbrev pub after_entry : Entry → List Entry → ℕ → List ℕ → List ℕ
after_entry (Complete t) past s now = completed (request past t) s now
after_entry (Zero lba sectors) past s now = zeroed lba sectors s now
after_entry entry past s now = now

-- and after a journal, which began with these
abbrev pub sector_from : List ℕ → List Entry → ℕ → List ℕ
sector_from was [] s = was
sector_from was (entry ∷ past) s = after_entry entry past s (sector_from was past s)

-- a write that has these bytes for the sector
pub record Writes (s : ℕ) (bytes : List ℕ) (r : Request) : Type 0 where
  pub write : is_write r.work ≡ true
  pub own : covers r.work s ≡ true
  pub has : written_at r.work s ≡ bytes

-- sectors that become zeros have these bytes for the sector
pub record Zeroes (s : ℕ) (bytes : List ℕ) (lba sectors : ℕ) : Type 0 where
  pub own : is_within lba sectors s ≡ true
  pub has : zero_sector ≡ bytes

-- of the commands that are done: a flush leaves what the commands before it have left, and nothing else; a write that was completed since, and zeros,
-- may be stored or not, whatever became of those beside it
abbrev pub LeavesAfter : Entry → List Entry → ℕ → (now bytes : List ℕ) → Type 0 → Type 0
LeavesAfter (Complete t) past s now bytes before = before ⊎ IsSomeAnd (request past t) (Writes s bytes)
LeavesAfter (Unqueued Flush) past s now bytes before = now ≡ bytes
LeavesAfter (Zero lba sectors) past s now bytes before = before ⊎ Zeroes s bytes lba sectors
LeavesAfter entry past s now bytes before = before

abbrev pub DoneMayLeave : List ℕ → List Entry → ℕ → List ℕ → Type 0
DoneMayLeave was [] s bytes = was ≡ bytes
DoneMayLeave was (entry ∷ past) s bytes = LeavesAfter entry past s (sector_from was past s) bytes (DoneMayLeave was past s bytes)

-- a write that is outstanding may be stored, too
pub record OutstandingMayLeave (past : List Entry) (s : ℕ) (bytes : List ℕ) (tag : ℕ) : Type 0 where
  pub busy : is_busy (phase past tag) ≡ true
  pub writes : IsSomeAnd (request past tag) (Writes s bytes)

-- some tag below 32 has one
pub record SomeMayLeave (past : List Entry) (s : ℕ) (bytes : List ℕ) : Type 0 where
  pub tag : ℕ
  pub low : tag < 32
  pub leaves : OutstandingMayLeave past s bytes tag

abbrev pub MayBeLeft : List ℕ → List Entry → ℕ → List ℕ → Type 0
MayBeLeft was past s bytes = DoneMayLeave was past s bytes ⊎ SomeMayLeave past s bytes
