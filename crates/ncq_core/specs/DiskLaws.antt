-- What holds of the disk's definitions: its FISes byte by byte, which bytes are a command, and the log page's sum.
use Rattle.std.specs.Prelude.{◌≡◌, ◌↔◌, ℕ, ◌*◌, ◌%◌, ◌^◌, ◌<◌, Bool, true, if◌then◌else◌, List, [], ◌∷◌, Some}
use Rattle.std.specs.Int.{byte_at}
use Rattle.std.specs.List.{sum}
use Rattle.sata_fis.specs.declared.fis.Fis.TheVariants.{H2d, D2h, DmaActivate, PioSetup, DmaSetup, SetBits}
use Rattle.sata_fis.specs.Fields.{H2dFields, QueuedFields}
use Rattle.sata_fis.specs.Spelling.{Spells}
use Rattle.ncq_core.specs.DiskState.{DiskError}
use Rattle.ncq_core.specs.DiskFis.{accepted_fis, aborted_fis, not_found_fis, flushed_fis, pio_fis, dma_setup_fis, completed_fis, failed_fis, accepted_bytes}
use Rattle.ncq_core.specs.DiskFis.{aborted_bytes, not_found_bytes, flushed_bytes, pio_bytes, setup_bytes, activate_bytes, completed_bytes, failed_bytes}
use Rattle.ncq_core.specs.Verdict.{command_in}
use Rattle.ncq_core.specs.Log.{log_page}

-- the bytes carry a command exactly where they spell a Register FIS - Host to Device whose C is 1
abbrev pub CommandIsSpelled : Type 0
CommandIsSpelled = (bytes : List ℕ) (f : H2dFields) → (command_in bytes ≡ Some f) ↔ (Spells bytes (H2d f) × (f.c ≡ true))

-- byte 1 of a DMA Setup: D is bit 5, and 1 where data go to the host
abbrev pub direction : Bool → ℕ
direction write = if write then 0 else 0x20

-- the bytes of what the disk sends, one by one
pub record AnswersAreTheseBytes : Type 0 where
  pub accepted : accepted_bytes ≡ 0x34 ∷ 0 ∷ 0x40 ∷ 0 ∷ 0 ∷ 0 ∷ 0 ∷ 0 ∷ 0 ∷ 0 ∷ 0 ∷ 0 ∷ 0 ∷ 0 ∷ 0 ∷ 0 ∷ 0 ∷ 0 ∷ 0 ∷ 0 ∷ []
  pub aborted : aborted_bytes ≡ 0x34 ∷ 0x40 ∷ 0x41 ∷ 0x04 ∷ 0 ∷ 0 ∷ 0 ∷ 0 ∷ 0 ∷ 0 ∷ 0 ∷ 0 ∷ 0 ∷ 0 ∷ 0 ∷ 0 ∷ 0 ∷ 0 ∷ 0 ∷ 0 ∷ []
  pub not_found :
      (lba : ℕ)
      → not_found_bytes lba
      ≡ 0x34 ∷ 0x40 ∷ 0x41 ∷ 0x10 ∷ byte_at 0 lba ∷ byte_at 1 lba ∷ byte_at 2 lba ∷ 0 ∷ byte_at 3 lba ∷ byte_at 4 lba ∷ byte_at 5 lba ∷ 0 ∷ 0 ∷ 0 ∷ 0 ∷ 0 ∷ 0 ∷ 0 ∷ 0 ∷ 0 ∷ []
  pub flushed : flushed_bytes ≡ 0x34 ∷ 0x40 ∷ 0x40 ∷ 0 ∷ 0 ∷ 0 ∷ 0 ∷ 0 ∷ 0 ∷ 0 ∷ 0 ∷ 0 ∷ 0 ∷ 0 ∷ 0 ∷ 0 ∷ 0 ∷ 0 ∷ 0 ∷ 0 ∷ []
  pub pio : pio_bytes ≡ 0x5F ∷ 0x60 ∷ 0x48 ∷ 0 ∷ 0 ∷ 0 ∷ 0 ∷ 0 ∷ 0 ∷ 0 ∷ 0 ∷ 0 ∷ 0 ∷ 0 ∷ 0 ∷ 0x40 ∷ 0 ∷ 2 ∷ 0 ∷ 0 ∷ []
  pub setup :
      (q : QueuedFields)
      → setup_bytes q
      ≡ 0x41 ∷ direction q.write ∷ 0 ∷ 0 ∷ q.tag ∷ 0 ∷ 0 ∷ 0 ∷ 0 ∷ 0 ∷ 0 ∷ 0 ∷ 0 ∷ 0 ∷ 0 ∷ 0 ∷ 0 ∷ 0 ∷ 0 ∷ 0
      ∷ byte_at 0 (512 * q.sectors) ∷ byte_at 1 (512 * q.sectors) ∷ byte_at 2 (512 * q.sectors) ∷ byte_at 3 (512 * q.sectors) ∷ 0 ∷ 0 ∷ 0 ∷ 0 ∷ []
  pub activate : activate_bytes ≡ 0x39 ∷ 0 ∷ 0 ∷ 0 ∷ []
  pub completed : (word : ℕ) → completed_bytes word ≡ 0xA1 ∷ 0x40 ∷ 0x40 ∷ 0 ∷ byte_at 0 word ∷ byte_at 1 word ∷ byte_at 2 word ∷ byte_at 3 word ∷ []
  pub failed : (error : ℕ) → failed_bytes error ≡ 0xA1 ∷ 0x40 ∷ 0x41 ∷ error ∷ 0 ∷ 0 ∷ 0 ∷ 0 ∷ []

-- each of them spells the FIS that it is the bytes of
pub record AnswersSpell : Type 0 where
  pub accepted : Spells accepted_bytes (D2h accepted_fis)
  pub aborted : Spells aborted_bytes (D2h aborted_fis)
  pub not_found : (lba : ℕ) → lba < 2 ^ 48 → Spells (not_found_bytes lba) (D2h (not_found_fis lba))
  pub flushed : Spells flushed_bytes (D2h flushed_fis)
  pub pio : Spells pio_bytes (PioSetup pio_fis)
  pub setup : (q : QueuedFields) → q.tag < 32 → q.sectors < 2 ^ 23 → Spells (setup_bytes q) (DmaSetup (dma_setup_fis q))
  pub activate : Spells activate_bytes DmaActivate
  pub completed : (word : ℕ) → word < 2 ^ 32 → Spells (completed_bytes word) (SetBits (completed_fis word))
  pub failed : (error : ℕ) → Spells (failed_bytes error) (SetBits (failed_fis error))

-- the bytes of a log page add up to 0 modulo 256
abbrev pub LogAddsUp : Type 0
LogAddsUp = (e : DiskError) → sum (log_page e) % 256 ≡ 0
