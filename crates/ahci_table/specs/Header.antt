-- The command header (AHCI 1.3.1, section 4.2.2 "Command List"), one line a field. P, PMP and PRDBC have no effect here,
-- and the other bits are reserved.
use Rattle.std.specs.Prelude.{ℕ, ◌*◌, ◌/◌, ◌%◌, List}
use Rattle.sata_fis.specs.Places.{byte, bit, number}
use Rattle.ahci_table.specs.Window.{WindowState}
use Rattle.ahci_table.specs.declared.header.Header.TheInside.{Inside}

-- the fields of a header
abbrev pub HeaderFields : Type 0
HeaderFields = Inside

abbrev pub header_at : List ℕ → HeaderFields
header_at bytes = record {
  cfl = byte 0 bytes % 32;
  a = bit 5 (byte 0 bytes);
  w = bit 6 (byte 0 bytes);
  r = bit 0 (byte 1 bytes);
  b = bit 1 (byte 1 bytes);
  c = bit 2 (byte 1 bytes);
  prdtl = number 2 2 bytes;
  ctba = 128 * (number 8 4 bytes / 128);
  ctbau = number 12 4 bytes;
}

-- the fields of a window's header
abbrev pub header_of : WindowState → HeaderFields
header_of w = header_at w.header
