-- How pages become zeros: what each sector needs for that, and what is so after.
use Rattle.std.specs.Prelude.{◌≡◌, ℕ, ◌/◌, ◌<◌, ◌≤◌, if◌then◌else◌, Bool, true, false, List, Option, ◌⊎◌}
use Rattle.sector_store.specs.Layers.{Layers}
use Rattle.sector_store.specs.Shown.{sector_now, sector_kept, is_touched, is_writable}
use Rattle.ncq_journal.specs.Image.{zero_sector}

-- the eight sectors of a page are zeros
abbrev pub IsBlank : (ℕ → List ℕ) → ℕ → Type 0
IsBlank sector number = (s : ℕ) → s / 8 ≡ number → sector s ≡ zero_sector

-- each of these sectors can be written, or is zeros
abbrev pub AreClearable : (ℕ → List ℕ) → (ℕ → Bool) → (ℕ → Option Layers) → Type 0
AreClearable below inside slots = (s : ℕ) → inside s ≡ true → (is_writable slots s ≡ true) ⊎ (sector_now below slots s ≡ zero_sector)

-- each page from one number to another can have a mark, or is zeros
abbrev pub AreMarkable : (ℕ → List ℕ) → ℕ → ℕ → (ℕ → Option Layers) → Type 0
AreMarkable below first end slots = (q : ℕ) → first ≤ q → q < end → (is_touched slots q ≡ true) ⊎ (IsBlank (sector_now below slots) q)

-- these sectors are zeros now, nothing else shows a change, and every other page that was held still is
pub record IsCleared (below : ℕ → List ℕ) (inside : ℕ → Bool) (old new : ℕ → Option Layers) : Type 0 where
  pub now : (s : ℕ) → sector_now below new s ≡ (if inside s then zero_sector else sector_now below old s)
  pub kept : (s : ℕ) → sector_kept below new s ≡ sector_kept below old s
  pub stay : (s : ℕ) → inside s ≡ false → is_writable old s ≡ true → is_writable new s ≡ true
