-- Sectors that become zeros (ACS-3, "DATA SET MANAGEMENT", a trimmed logical sector that reads as zeros).
use Rattle.std.specs.Prelude.{◌≡◌, ℕ, Bool, true, false, length}
use Rattle.std.proofs.lemmas.List.{length-replicate}
use Rattle.ncq_journal.specs.Image.{is_within, zero_sector}

pub length-zero_sector : length zero_sector ≡ 512
unfolding zero_sector
length-zero_sector = length-replicate {A = ℕ} 512 0

-- what was reserved of the other sectors still is
abbrev pub StayReservedBut : (lba sectors : ℕ) → (old new : ℕ → Bool) → Type 0
StayReservedBut lba sectors old new = (s : ℕ) → is_within lba sectors s ≡ false → old s ≡ true → new s ≡ true
