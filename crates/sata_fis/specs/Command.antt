-- READ FPDMA QUEUED and WRITE FPDMA QUEUED in a Register FIS - Host to Device (ACS-3, by the commands'
-- titles).
use Rattle.std.specs.Prelude.{ℕ, ◌*◌, ◌/◌, ◌%◌, Bool, true, ◌==◌, ◌&&◌, ◌||◌, Option, Some, None, if◌then◌else◌}
use Rattle.sata_fis.specs.Places.{bit}
use Rattle.sata_fis.specs.Fields.{H2dFields, QueuedFields}

-- READ FPDMA QUEUED is 60h and WRITE FPDMA QUEUED 61h; C marks a command, and device bit 6 is 1
abbrev pub is_queued : H2dFields → Bool
is_queued f = f.c && (f.command == 0x60 || f.command == 0x61) && bit 6 f.device

-- features 15:0 count the sectors, and 0000h means 65,536
abbrev pub sectors_of : ℕ → ℕ
sectors_of features = if features == 0 then 65536 else features

-- count 7:3 is the tag, and device bit 7 is FUA
abbrev pub asked_by : H2dFields → QueuedFields
asked_by f = record {
  write = f.command == 0x61;
  tag = f.count / 8 % 32;
  lba = f.lba;
  sectors = sectors_of f.features;
  fua = bit 7 f.device;
}

-- the queued command that a FIS asks for, where it asks for one
abbrev pub queued_in : H2dFields → Option QueuedFields
queued_in f = if is_queued f then Some (asked_by f) else None

-- the FIS that asks for a queued command, with priority and control 0
abbrev pub h2d_for : QueuedFields → H2dFields
h2d_for q = record {
  c = true;
  command = if q.write then 0x61 else 0x60;
  features = q.sectors % 65536;
  lba = q.lba;
  device = if q.fua then 0xC0 else 0x40;
  count = 8 * q.tag;
  control = 0;
}
