-- The two layers of pages over what a disk has below them: a page written since the last keep hides one that was kept.
use Rattle.std.specs.Prelude.{◌≡◌, ℕ, ◌==◌, if◌then◌else◌, Bool, true, false, List, [], length, replicate, Option, None, Some, is_some}
use Rattle.ncq_journal.specs.Image.{sector_at}

-- a page of zeros
unfoldable pub zero_page : List ℕ
zero_page = replicate 4096 0

-- what one layer has: a page, as the list of its bytes; whether these are in memory, since those of a page of zeros need not be; whether the number is in the list
pub record Cover : Type 0 where
  pub page : Option (List ℕ)
  pub held : Bool
  pub listed : Bool

-- the page of the upper layer and that of the lower one; whether the upper one is in memory, and whether the number is in the list of touched pages
pub record Layers : Type 0 where
  pub upper : Option (List ℕ)
  pub lower : Option (List ℕ)
  pub held : Bool
  pub touched : Bool

-- no page in either layer
abbrev pub no_pages : Layers
no_pages = record { upper = None; lower = None; held = false; touched = false }

-- the first page if there is one, else the second
abbrev pub page_or : Option (List ℕ) → Option (List ℕ) → Option (List ℕ)
page_or None lower = lower
page_or (Some page) lower = Some page

-- the page as it is now
abbrev pub page_now : Layers → Option (List ℕ)
page_now l = page_or l.upper l.lower

-- the page of the upper layer moved into the lower one
abbrev pub kept_layers : Layers → Layers
kept_layers l = record { upper = None; lower = page_now l; held = false; touched = false }

-- the page of the upper layer dropped
abbrev pub dropped_layers : Layers → Layers
dropped_layers l = record { upper = None; lower = l.lower; held = false; touched = false }

-- the bytes of a page, none if there is no page
abbrev pub page_bytes : Option (List ℕ) → List ℕ
page_bytes None = []
page_bytes (Some page) = page

-- the sector at a place of a page is these bytes after, and the others are what they were
abbrev pub IsPageWritten : ℕ → List ℕ → List ℕ → List ℕ → Type 0
IsPageWritten place sector old new = (s : ℕ) → sector_at new s ≡ (if s == place then sector else sector_at old s)

-- the same of the page in the upper layer, which is in memory, with nothing else changed
pub record IsSlotWritten (place : ℕ) (sector : List ℕ) (old new : Layers) : Type 0 where
  pub was : is_some old.upper ≡ true
  pub some : is_some new.upper ≡ true
  pub page : IsPageWritten place sector (page_bytes old.upper) (page_bytes new.upper)
  pub len : length (page_bytes new.upper) ≡ length (page_bytes old.upper)
  pub lower : new.lower ≡ old.lower
  pub held : new.held ≡ true
  pub touched : new.touched ≡ old.touched
