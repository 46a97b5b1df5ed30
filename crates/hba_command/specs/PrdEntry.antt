-- An entry of the physical region descriptor table (AHCI 1.3.1, section 4.2.3 "Command Table"). Bit 0 of DBA is reserved, and
-- bit 0 of DBC is always 1: both are taken so, whatever is written there (profile). I is bit 31 of the last word.
use Rattle.std.specs.Prelude.{ℕ, ◌+◌, ◌*◌, ◌/◌, ◌%◌, ◌^◌, List, nat_le}
use Rattle.sata_fis.specs.Places.{number}
use Rattle.hba_command.specs.declared.entry.PrdEntry.{PrdEntry}

abbrev pub entry_at : List ℕ → PrdEntry
entry_at bytes = record {
  address = 2 * (number 0 4 bytes / 2) + 2 ^ 32 * number 4 4 bytes;
  length = 2 * (number 12 4 bytes % 2 ^ 22 / 2) + 2;
  interrupt = nat_le (2 ^ 31) (number 12 4 bytes);
}
