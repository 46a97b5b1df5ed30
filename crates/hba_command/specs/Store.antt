-- What the disk does with data that are no sectors (ACS-3, "WRITE BUFFER", "WRITE BUFFER DMA", "DATA SET MANAGEMENT", "WRITE LOG EXT" and "SMART WRITE LOG").
use Rattle.std.specs.Prelude.{ℕ, ◌+◌, ◌*◌, ◌/◌, ◌%◌, ◌^◌, Bool, not, ◌==◌, ◌&&◌, nat_lt, List, length}
use Rattle.std.specs.List.{list_any, range_with_len}
use Rattle.sata_fis.specs.Places.{number}
use Rattle.hba_command.specs.declared.addressing.Addressing.{Addressing}
use Rattle.hba_command.specs.declared.addressing.Addressing.TheVariants.{Bits28, Bits48}
use Rattle.hba_command.specs.declared.store.Store.{Store}
use Rattle.hba_command.specs.declared.store.Store.TheVariants.{Buffer, Log, Trim}

-- how many blocks of 512 bytes they have
abbrev pub blocks_of : Store → ℕ
blocks_of Buffer = 1
blocks_of (Trim blocks) = blocks
blocks_of (Log pages) = pages.count

-- DATA SET MANAGEMENT is a command of 48 bits, as WRITE LOG EXT and WRITE LOG DMA EXT are; SMART WRITE LOG is one of 28
abbrev pub store_addressing : Store → Addressing
store_addressing Buffer = Bits28
store_addressing (Trim blocks) = Bits48
store_addressing (Log pages) = pages.addressing

-- an LBA Range Entry has eight bytes: the first LBA in bits 47:0, and how many sectors in bits 63:48, of which none is passed over ("LBA
-- Range Entry")
abbrev pub entry_leaves : (sectors entry : ℕ) → Bool
entry_leaves sectors entry = not (entry / 2 ^ 48 == 0) && nat_lt sectors (entry % 2 ^ 48 + entry / 2 ^ 48)

-- some entry names a sector that is not on the disk
abbrev pub leaves_disk : (sectors : ℕ) → List ℕ → Bool
leaves_disk sectors bytes = list_any (λ k. entry_leaves sectors (number (8 * k) 8 bytes)) (range_with_len 0 (length bytes / 8))
