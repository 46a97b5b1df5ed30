-- What a test of one named bit says of the set of a word's bits.
use Rattle.std.proofs.Common.{◌≡◌, ℕ, nat_eq, bit_and, lit<}
use Rattle.word_bits.specs.Places.{bits, has_place}
use Rattle.word_bits.proofs.BitsLemmas.{test_contains}

-- ERR of a status
pub test_err : (w : ℕ) → nat_eq (bit_and w 1) 1 ≡ has_place (bits w) 0
test_err w = test_contains w 0 (lit< tt)

-- DRQ of a status
pub test_drq : (w : ℕ) → nat_eq (bit_and w 8) 8 ≡ has_place (bits w) 3
test_drq w = test_contains w 3 (lit< tt)

-- BSY of a status
pub test_bsy : (w : ℕ) → nat_eq (bit_and w 128) 128 ≡ has_place (bits w) 7
test_bsy w = test_contains w 7 (lit< tt)

-- ST of PxCMD
pub test_st : (w : ℕ) → nat_eq (bit_and w 1) 1 ≡ has_place (bits w) 0
test_st w = test_contains w 0 (lit< tt)

-- FRE of PxCMD
pub test_fre : (w : ℕ) → nat_eq (bit_and w 16) 16 ≡ has_place (bits w) 4
test_fre w = test_contains w 4 (lit< tt)
