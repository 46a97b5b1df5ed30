-- What follows from the definition.
use Rattle.std.proofs.Common.{◌≡◌, ◌↔◌, ℕ, Bool, true, false, ◌&&◌, List, [], ◌∷◌, Option, None, Some, IsSomeAnd, if◌then◌else◌, refl, ap, sym, ◌∙◌, inl, inr, ◌⊎◌}
use Rattle.ncq_journal.specs.Entry.{Entry, Issue, Accept, Complete, Fail, Recover, Reissue, Collect, Unqueued, Zero}
use Rattle.ncq_journal.specs.Image.{covers, is_within, is_write, sector_at, written_at, zero_sector, zeroed}
use Rattle.ncq_journal.specs.Phase.{is_busy, phase}
use Rattle.ncq_journal.specs.Request.{Request, request}
use Rattle.ncq_journal.specs.Sector.{completed, sector}
use Rattle.ncq_journal.specs.declared.plain.Plain.TheVariants.{Identify, Flush, ReadLog}
use Rattle.power_loss.specs.Leaving.{DoneMayLeave, MayBeLeft, SomeMayLeave, Writes, Zeroes, sector_from}

pub follows : (image : List ℕ) (past : List Entry) (s : ℕ) → sector_from (sector_at image s) past s ≡ sector image past s
follows image [] s = refl
follows image (Issue t work ∷ past) s = follows image past s
follows image (Accept t ∷ past) s = follows image past s
follows image (Complete t ∷ past) s = ap (λ b. completed (request past t) s b) (follows image past s)
follows image (Fail t error lba ∷ past) s = follows image past s
follows image (Recover t ∷ past) s = follows image past s
follows image (Reissue t ∷ past) s = follows image past s
follows image (Collect t ∷ past) s = follows image past s
follows image (Unqueued command ∷ past) s = follows image past s
follows image (Zero lba sectors ∷ past) s = ap (zeroed lba sectors s) (follows image past s)

-- a completed request has stored its bytes, or left the sector
stores : (r : Option Request) (s : ℕ) (was now : List ℕ) (past : List Entry) → DoneMayLeave was past s now → DoneMayLeave was past s (completed r s now) ⊎ IsSomeAnd r (Writes s (completed r s now))
stores None s was now past h = inl h
stores (Some r) s was now past h = by (is_write r.work) (covers r.work s) refl refl
  where
    by : (w c : Bool) → is_write r.work ≡ w → covers r.work s ≡ c
        → DoneMayLeave was past s (if w && c then written_at r.work s else now) ⊎ Writes s (if w && c then written_at r.work s else now) r
    by true true w c = inr (record { write = w; own = c; has = refl })
    by true false w c = inl h
    by false c w d = inl h

-- sectors that become zeros are zeros, or the sector is none of them
zeroes : (lba sectors s : ℕ) (was now : List ℕ) (past : List Entry) → DoneMayLeave was past s now → DoneMayLeave was past s (zeroed lba sectors s now) ⊎ Zeroes s (zeroed lba sectors s now) lba sectors
zeroes lba sectors s was now past h = by (is_within lba sectors s) refl
  where
    by : (b : Bool) → is_within lba sectors s ≡ b → DoneMayLeave was past s (if b then zero_sector else now) ⊎ Zeroes s (if b then zero_sector else now) lba sectors
    by true e = inr (record { own = e; has = refl })
    by false e = inl h

keeps_done : (was : List ℕ) (past : List Entry) (s : ℕ) → DoneMayLeave was past s (sector_from was past s)
keeps_done was [] s = refl
keeps_done was (Issue t work ∷ past) s = keeps_done was past s
keeps_done was (Accept t ∷ past) s = keeps_done was past s
keeps_done was (Complete t ∷ past) s = stores (request past t) s was (sector_from was past s) past (keeps_done was past s)
keeps_done was (Fail t error lba ∷ past) s = keeps_done was past s
keeps_done was (Recover t ∷ past) s = keeps_done was past s
keeps_done was (Reissue t ∷ past) s = keeps_done was past s
keeps_done was (Collect t ∷ past) s = keeps_done was past s
keeps_done was (Unqueued Identify ∷ past) s = keeps_done was past s
keeps_done was (Unqueued Flush ∷ past) s = refl
keeps_done was (Unqueued ReadLog ∷ past) s = keeps_done was past s
keeps_done was (Zero lba sectors ∷ past) s = zeroes lba sectors s was (sector_from was past s) past (keeps_done was past s)

pub keeps : (was : List ℕ) (past : List Entry) (s : ℕ) → MayBeLeft was past s (sector_from was past s)
keeps was past s = inl (keeps_done was past s)

pub flushes : (was : List ℕ) (past : List Entry) (s : ℕ) (bytes : List ℕ) → ((tag : ℕ) → is_busy (phase past tag) ≡ false) → MayBeLeft was (Unqueued Flush ∷ past) s bytes
    → bytes ≡ sector_from was past s
flushes was past s bytes idle (inl h) = sym h
flushes was past s bytes idle (inr m) = let no : true ≡ false = sym m.leaves.busy ∙ idle m.tag in cc

-- what is outstanding doesn't depend on a Zero
outstanding : (past : List Entry) (lba sectors s : ℕ) (bytes : List ℕ) → SomeMayLeave (Zero lba sectors ∷ past) s bytes → SomeMayLeave past s bytes
outstanding past lba sectors s bytes m = record { tag = m.tag; low = m.low; leaves = record { busy = m.leaves.busy; writes = m.leaves.writes } }

still_outstanding : (past : List Entry) (lba sectors s : ℕ) (bytes : List ℕ) → SomeMayLeave past s bytes → SomeMayLeave (Zero lba sectors ∷ past) s bytes
still_outstanding past lba sectors s bytes m = record { tag = m.tag; low = m.low; leaves = record { busy = m.leaves.busy; writes = m.leaves.writes } }

zeros_or_before : (was : List ℕ) (past : List Entry) (lba sectors s : ℕ) (bytes : List ℕ) → MayBeLeft was (Zero lba sectors ∷ past) s bytes
    → MayBeLeft was past s bytes ⊎ ((is_within lba sectors s ≡ true) × (bytes ≡ zero_sector))
zeros_or_before was past lba sectors s bytes (inl (inl h)) = inl (inl h)
zeros_or_before was past lba sectors s bytes (inl (inr z)) = inr (z.own, sym z.has)
zeros_or_before was past lba sectors s bytes (inr m) = inl (inr (outstanding past lba sectors s bytes m))

before_or_zeros : (was : List ℕ) (past : List Entry) (lba sectors s : ℕ) (bytes : List ℕ) → MayBeLeft was past s bytes ⊎ ((is_within lba sectors s ≡ true) × (bytes ≡ zero_sector))
    → MayBeLeft was (Zero lba sectors ∷ past) s bytes
before_or_zeros was past lba sectors s bytes (inl (inl h)) = inl (inl h)
before_or_zeros was past lba sectors s bytes (inl (inr m)) = inr (still_outstanding past lba sectors s bytes m)
before_or_zeros was past lba sectors s bytes (inr z) = inl (inr (record { own = z.0; has = sym z.1 }))

pub zeros_lost : (was : List ℕ) (past : List Entry) (lba sectors s : ℕ) (bytes : List ℕ)
    → MayBeLeft was (Zero lba sectors ∷ past) s bytes ↔ (MayBeLeft was past s bytes ⊎ ((is_within lba sectors s ≡ true) × (bytes ≡ zero_sector)))
zeros_lost was past lba sectors s bytes = (zeros_or_before was past lba sectors s bytes, before_or_zeros was past lba sectors s bytes)

pub zeros_kept : (was : List ℕ) (past : List Entry) (lba sectors s : ℕ) (bytes : List ℕ) → ((tag : ℕ) → is_busy (phase past tag) ≡ false)
    → is_within lba sectors s ≡ true → MayBeLeft was (Unqueued Flush ∷ Zero lba sectors ∷ past) s bytes → bytes ≡ zero_sector
zeros_kept was past lba sectors s bytes idle own left =
    flushes was (Zero lba sectors ∷ past) s bytes idle left ∙ ap (λ b. if b then zero_sector else sector_from was past s) own
