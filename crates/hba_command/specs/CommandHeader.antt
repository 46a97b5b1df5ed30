-- The command header (AHCI 1.3.1, section 4.2.2 "Command List"), one line a field.
use Rattle.std.specs.Prelude.{ℕ, ◌+◌, ◌*◌, ◌/◌, ◌%◌, ◌^◌, List}
use Rattle.sata_fis.specs.Places.{byte, bit, number}
use Rattle.hba_command.specs.declared.header.CommandHeader.{CommandHeader}

abbrev pub header_at : List ℕ → CommandHeader
header_at bytes = record {
  fis_dwords = byte 0 bytes % 32;
  atapi = bit 5 (byte 0 bytes);
  write = bit 6 (byte 0 bytes);
  reset = bit 0 (byte 1 bytes);
  bist = bit 1 (byte 1 bytes);
  clears_busy = bit 2 (byte 1 bytes);
  entries = number 2 2 bytes;
  table = 128 * (number 8 4 bytes / 128) + 2 ^ 32 * number 12 4 bytes;
}
