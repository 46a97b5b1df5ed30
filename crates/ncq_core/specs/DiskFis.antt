-- The FISes that the disk sends (Serial ATA, "FIS types"; the status and error bits: ACS-3, "Status field" and "Error
-- field"). Status 40h is DRDY, 48h DRDY with DRQ, 41h DRDY with ERR; error 04h is ABRT, 10h IDNF.
use Rattle.std.specs.Prelude.{ℕ, Bool, ◌*◌, true, false, not, List}
use Rattle.sata_fis.specs.Fields.{D2hFields, PioSetupFields, DmaSetupFields, SetBitsFields, QueuedFields}
use Rattle.sata_fis.specs.Encoding.{d2h_bytes, pio_setup_bytes, dma_setup_bytes, set_bits_bytes, encoded}
use Rattle.sata_fis.specs.declared.fis.Fis.TheVariants.{DmaActivate}

-- Register, Device to Host, with a status, an error and an LBA, and all else 0
abbrev pub register_fis : Bool → ℕ → ℕ → ℕ → D2hFields
register_fis i status error lba = record { i = i; status = status; error = error; lba = lba; device = 0; count = 0 }

-- a queued command is accepted, with no interrupt
abbrev pub accepted_fis : D2hFields
accepted_fis = register_fis false 0x40 0 0

-- a command is refused with ABRT
abbrev pub aborted_fis : D2hFields
aborted_fis = register_fis true 0x41 0x04 0

-- a command is refused with IDNF, since the disk has no sector at the LBA
abbrev pub not_found_fis : ℕ → D2hFields
not_found_fis lba = register_fis true 0x41 0x10 lba

-- a flush is done
abbrev pub flushed_fis : D2hFields
flushed_fis = register_fis true 0x40 0 0

-- one page of 512 bytes comes by PIO: PIO Setup, Device to Host
abbrev pub pio_fis : PioSetupFields
pio_fis = record { i = true; d = true; status = 0x48; error = 0; lba = 0; device = 0; count = 0; e_status = 0x40; bytes = 512 }

-- the command whose data comes next, all of it from the buffer's beginning on: DMA Setup, to the host for a read
abbrev pub dma_setup_fis : QueuedFields → DmaSetupFields
dma_setup_fis q = record { a = false; i = false; d = not q.write; tag = q.tag; offset = 0; count = 512 * q.sectors }

-- Set Device Bits, with a status, an error and the tags that are done
abbrev pub done_fis : ℕ → ℕ → ℕ → SetBitsFields
done_fis status error sactive = record { i = true; status = status; error = error; sactive = sactive }

-- the commands of a word's tags are completed
abbrev pub completed_fis : ℕ → SetBitsFields
completed_fis word = done_fis 0x40 0 word

-- a command failed with an error, and none is completed
abbrev pub failed_fis : ℕ → SetBitsFields
failed_fis error = done_fis 0x41 error 0

-- the bytes of each of them
abbrev pub accepted_bytes : List ℕ
accepted_bytes = d2h_bytes accepted_fis

abbrev pub aborted_bytes : List ℕ
aborted_bytes = d2h_bytes aborted_fis

abbrev pub not_found_bytes : ℕ → List ℕ
not_found_bytes lba = d2h_bytes (not_found_fis lba)

abbrev pub flushed_bytes : List ℕ
flushed_bytes = d2h_bytes flushed_fis

abbrev pub pio_bytes : List ℕ
pio_bytes = pio_setup_bytes pio_fis

abbrev pub setup_bytes : QueuedFields → List ℕ
setup_bytes q = dma_setup_bytes (dma_setup_fis q)

-- the next Data FIS of a write may come: DMA Activate
abbrev pub activate_bytes : List ℕ
activate_bytes = encoded DmaActivate

abbrev pub completed_bytes : ℕ → List ℕ
completed_bytes word = set_bits_bytes (completed_fis word)

abbrev pub failed_bytes : ℕ → List ℕ
failed_bytes error = set_bits_bytes (failed_fis error)
