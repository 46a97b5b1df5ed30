-- What is written at a field's place is read there again: one lemma for each width, for flags and for
-- the status of Set Device Bits.
use Rattle.std.proofs.Common.{◌≡◌, ℕ, ◌+◌, ◌*◌, ◌^◌, ◌<◌, Bool, true, false, bit_and, refl, arith}
use Rattle.std.specs.Int.{byte_at}
use Rattle.std.proofs.lemmas.Nat.{and_assoc}
use Rattle.sata_fis.specs.Places.{bit, flags}

-- two bytes in a row, two bytes apart, four bytes, and the two halves of an LBA
pub two_bytes : (n : ℕ) → n < 2 ^ 16 → byte_at 0 n + 256 * (byte_at 1 n + 256 * 0) ≡ n
two_bytes n h = omega arith

pub two_apart : (n : ℕ) → n < 2 ^ 16 → byte_at 0 n + 256 * byte_at 1 n ≡ n
two_apart n h = omega arith

pub four_bytes : (n : ℕ) → n < 2 ^ 32 → byte_at 0 n + 256 * (byte_at 1 n + 256 * (byte_at 2 n + 256 * (byte_at 3 n + 256 * 0))) ≡ n
four_bytes n h = omega arith

pub six_bytes : (n : ℕ) → n < 2 ^ 48 → byte_at 0 n + 256 * (byte_at 1 n + 256 * (byte_at 2 n + 256 * 0)) + 2 ^ 24 * (byte_at 3 n + 256 * (byte_at 4 n + 256 * (byte_at 5 n + 256 * 0))) ≡ n
six_bytes n h = omega arith

-- each flag is read at its place
pub bits-flags : (a i d : Bool) → (bit 7 (flags a i d) ≡ a) × (bit 6 (flags a i d) ≡ i) × (bit 5 (flags a i d) ≡ d)
bits-flags true true true = (refl, refl, refl)
bits-flags true true false = (refl, refl, refl)
bits-flags true false true = (refl, refl, refl)
bits-flags true false false = (refl, refl, refl)
bits-flags false true true = (refl, refl, refl)
bits-flags false true false = (refl, refl, refl)
bits-flags false false true = (refl, refl, refl)
bits-flags false false false = (refl, refl, refl)

-- the bits 6:4 and 2:0 of those bits are those bits
pub kept_twice : (b : ℕ) → bit_and (bit_and b 0x77) 0x77 ≡ bit_and b 0x77
kept_twice b = and_assoc 0x77 b 0x77
