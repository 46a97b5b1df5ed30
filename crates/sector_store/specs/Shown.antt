-- The sectors that pages show over what a disk has below them.
use Rattle.std.specs.Prelude.{◌≡◌, ℕ, ◌+◌, ◌-◌, ◌*◌, ◌/◌, ◌%◌, ◌<◌, ◌==◌, ◌||◌, ◌&&◌, nat_le, nat_lt, if◌then◌else◌, Bool, true, false, List, [], ◌∷◌, length, Option, None, Some, is_some}
use Rattle.std.specs.List.{flat_map, range_with_len}
use Rattle.std.proofs.Common.{ap, ◌∙◌, arith, inl, inr, drop, length-drop, length-take}
use Rattle.std.proofs.lemmas.Bool.{cases_lt, cond-true, cond-false, lt-ltb, le-ltb}
use Rattle.ncq_journal.specs.Image.{sector_at, zero_sector}
use Rattle.sector_store.specs.Layers.{Layers, page_now}
use Rattle.sector_store.specs.Slots.{layers_of}
use Rattle.sector_store.specs.Zeroed.{length-zero_sector}

-- a sector of a buffer, or zeros past its last whole one
abbrev pub buffer_sector : List ℕ → ℕ → List ℕ
buffer_sector bytes lba = if nat_lt lba (length bytes / 512) then sector_at bytes lba else zero_sector

pub length-buffer_sector : (bytes : List ℕ) (lba : ℕ) → length (buffer_sector bytes lba) ≡ 512
length-buffer_sector bytes lba =
    elim (cases_lt lba (length bytes / 512)) [
      | inl inside ↦
          let rest = length-drop (512 * lba) bytes in
          ap length (cond-true (nat_lt lba (length bytes / 512)) (sector_at bytes lba) zero_sector (lt-ltb lba (length bytes / 512) inside))
          ∙ length-take 512 (drop (512 * lba) bytes)
          ∙ (omega arith)
      | inr past ↦ ap length (cond-false (nat_lt lba (length bytes / 512)) (sector_at bytes lba) zero_sector (le-ltb lba (length bytes / 512) past)) ∙ length-zero_sector
    ]

-- a sector of its page, or from below if there is none
abbrev pub sector_over : Option (List ℕ) → List ℕ → ℕ → List ℕ
sector_over None below lba = below
sector_over (Some page) below lba = sector_at page (lba % 8)

-- a sector as it is now, over these below
abbrev pub sector_now : (ℕ → List ℕ) → (ℕ → Option Layers) → ℕ → List ℕ
sector_now below slots lba = sector_over (page_now (layers_of (slots (lba / 8)))) (below lba) lba

-- a sector as it was kept
abbrev pub sector_kept : (ℕ → List ℕ) → (ℕ → Option Layers) → ℕ → List ℕ
sector_kept below slots lba = sector_over (layers_of (slots (lba / 8))).lower (below lba) lba

-- the first sectors, one after the other
unfoldable pub joined : (ℕ → List ℕ) → ℕ → List ℕ
joined sector count = flat_map sector (range_with_len 0 count)

-- there is a page in the upper layer of a slot
abbrev pub is_written : (ℕ → Option Layers) → ℕ → Bool
is_written slots number = is_some (layers_of (slots number)).upper

-- the page in the upper layer of a slot is in memory
abbrev pub is_held : (ℕ → Option Layers) → ℕ → Bool
is_held slots number = (layers_of (slots number)).held

-- a sector's page is in the upper layer, and in memory
abbrev pub is_writable : (ℕ → Option Layers) → ℕ → Bool
is_writable slots lba = is_held slots (lba / 8)

-- a slot says that its number is in the list of touched pages
abbrev pub is_touched : (ℕ → Option Layers) → ℕ → Bool
is_touched slots number = (layers_of (slots number)).touched

-- a number is in a list
abbrev pub among : List ℕ → ℕ → Bool
among [] number = false
among (x ∷ xs) number = (x == number) || among xs number

-- every page has 4,096 bytes
pub record HasWholePages (slots : ℕ → Option Layers) : Type 0 where
  pub upper : (q : ℕ) (page : List ℕ) → (layers_of (slots q)).upper ≡ Some page → length page ≡ 4096
  pub lower : (q : ℕ) (page : List ℕ) → (layers_of (slots q)).lower ≡ Some page → length page ≡ 4096

-- the list has each number with a page in its upper layer or whose slot says so, and none whose slot isn't made
pub record AreTouched (slots : ℕ → Option Layers) (touched : List ℕ) : Type 0 where
  pub made : (q : ℕ) → among touched q ≡ true → is_some (slots q) ≡ true
  pub written : (q : ℕ) → is_written slots q ≡ true → among touched q ≡ true
  pub listed : (q : ℕ) → is_touched slots q ≡ true → among touched q ≡ true

-- each sector that isn't in one of these pages is the one that was kept
abbrev pub ChangesAmong : List ℕ → List ℕ → List ℕ → Type 0
ChangesAmong touched image starting = (s : ℕ) → among touched (s / 8) ≡ false → sector_at image s ≡ sector_at starting s

-- no slot but one has changed, which is made
pub record ChangesAt (number : ℕ) (old new : ℕ → Option Layers) : Type 0 where
  pub others : (q : ℕ) → (q ≡ number → ⊥) → new q ≡ old q
  pub made : is_some (new number) ≡ true

-- one sector has these bytes now, nothing else shows a change, and every page that was held still is
pub record IsWrittenAt (lba : ℕ) (sector : List ℕ) (old new : ℕ → Option Layers) : Type 0 where
  pub now : (below : ℕ → List ℕ) (s : ℕ) → sector_now below new s ≡ (if s == lba then sector else sector_now below old s)
  pub kept : (below : ℕ → List ℕ) (s : ℕ) → sector_kept below new s ≡ sector_kept below old s
  pub stay : (q : ℕ) → is_held old q ≡ true → is_held new q ≡ true

-- the sectors are the same, as they are now and as they were kept, every page that was held still is, and every number that was listed
pub record ShowSame (below : ℕ → List ℕ) (old new : ℕ → Option Layers) : Type 0 where
  pub now : (s : ℕ) → sector_now below new s ≡ sector_now below old s
  pub kept : (s : ℕ) → sector_kept below new s ≡ sector_kept below old s
  pub stay : (q : ℕ) → is_held old q ≡ true → is_held new q ≡ true
  pub listed : (q : ℕ) → is_touched old q ≡ true → is_touched new q ≡ true

-- a page has these eight sectors
abbrev pub IsPageOf : (ℕ → List ℕ) → ℕ → List ℕ → Type 0
IsPageOf sector number page = (place : ℕ) → place < 8 → sector_at page place ≡ sector (8 * number + place)

-- the buffer has these sectors, from an LBA on
abbrev pub AreRead : (ℕ → List ℕ) → ℕ → List ℕ → Type 0
AreRead sector lba out = (i : ℕ) → i < length out / 512 → sector_at out i ≡ sector (lba + i)

-- so many sectors from an LBA on have these bytes now, and nothing else shows a change
pub record AreWrittenAt (lba count : ℕ) (bytes : List ℕ) (old new : ℕ → Option Layers) : Type 0 where
  pub now : (below : ℕ → List ℕ) (s : ℕ) → sector_now below new s ≡ (if nat_le lba s && nat_lt s (lba + count) then sector_at bytes (s - lba) else sector_now below old s)
  pub kept : (below : ℕ → List ℕ) (s : ℕ) → sector_kept below new s ≡ sector_kept below old s
  pub stay : (q : ℕ) → is_held old q ≡ true → is_held new q ≡ true

-- the sectors are the same, and those that are kept
pub record IsKept (old new : ℕ → Option Layers) : Type 0 where
  pub now : (below : ℕ → List ℕ) (s : ℕ) → sector_now below new s ≡ sector_now below old s
  pub kept : (below : ℕ → List ℕ) (s : ℕ) → sector_kept below new s ≡ sector_now below old s

-- the sectors are those that were kept, and still are
pub record IsRestored (old new : ℕ → Option Layers) : Type 0 where
  pub now : (below : ℕ → List ℕ) (s : ℕ) → sector_now below new s ≡ sector_kept below old s
  pub kept : (below : ℕ → List ℕ) (s : ℕ) → sector_kept below new s ≡ sector_kept below old s
