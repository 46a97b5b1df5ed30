-- Which sectors can be written with no more memory.
use Rattle.std.specs.Prelude.{◌≡◌, ℕ, ◌+◌, ◌<◌, ◌≤◌, Bool, true}

-- so many sectors from an LBA on are reserved
abbrev pub AreReserved : (ℕ → Bool) → ℕ → ℕ → Type 0
AreReserved is_reserved lba sectors = (s : ℕ) → lba ≤ s → s < lba + sectors → is_reserved s ≡ true

-- what was reserved still is
abbrev pub StayReserved : (ℕ → Bool) → (ℕ → Bool) → Type 0
StayReserved old new = (s : ℕ) → old s ≡ true → new s ≡ true
