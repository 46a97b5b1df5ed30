-- What the bytes of each FIS say, one line a field (Serial ATA, "FIS types"). Bits and bytes that no
-- line names are reserved and free.
use Rattle.std.specs.Prelude.{ℕ, ◌+◌, ◌*◌, ◌%◌, List, bit_and}
use Rattle.sata_fis.specs.Places.{byte, bit, number, lba_at}
use Rattle.sata_fis.specs.Fields.{H2dFields, D2hFields, PioSetupFields, DmaSetupFields, SetBitsFields}

-- Register FIS - Host to Device
abbrev pub h2d_at : List ℕ → H2dFields
h2d_at bytes = record {
  c = bit 7 (byte 1 bytes);
  command = byte 2 bytes;
  features = byte 3 bytes + 256 * byte 11 bytes;
  lba = lba_at bytes;
  device = byte 7 bytes;
  count = number 12 2 bytes;
  control = byte 15 bytes;
}

-- Register FIS - Device to Host
abbrev pub d2h_at : List ℕ → D2hFields
d2h_at bytes = record {
  i = bit 6 (byte 1 bytes);
  status = byte 2 bytes;
  error = byte 3 bytes;
  lba = lba_at bytes;
  device = byte 7 bytes;
  count = number 12 2 bytes;
}

-- PIO Setup FIS - Device to Host
abbrev pub pio_setup_at : List ℕ → PioSetupFields
pio_setup_at bytes = record {
  i = bit 6 (byte 1 bytes);
  d = bit 5 (byte 1 bytes);
  status = byte 2 bytes;
  error = byte 3 bytes;
  lba = lba_at bytes;
  device = byte 7 bytes;
  count = number 12 2 bytes;
  e_status = byte 15 bytes;
  bytes = number 16 2 bytes;
}

-- DMA Setup FIS: the tag has bits 4:0 of byte 4
abbrev pub dma_setup_at : List ℕ → DmaSetupFields
dma_setup_at bytes = record {
  a = bit 7 (byte 1 bytes);
  i = bit 6 (byte 1 bytes);
  d = bit 5 (byte 1 bytes);
  tag = byte 4 bytes % 32;
  offset = number 16 4 bytes;
  count = number 20 4 bytes;
}

-- Set Device Bits FIS - Device to Host: the status has bits 6:4 and 2:0 of byte 2
abbrev pub set_bits_at : List ℕ → SetBitsFields
set_bits_at bytes = record {
  i = bit 6 (byte 1 bytes);
  status = bit_and (byte 2 bytes) 0x77;
  error = byte 3 bytes;
  sactive = number 4 4 bytes;
}
