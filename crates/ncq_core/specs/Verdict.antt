-- What the disk does with the bytes of a command (Serial ATA, "Register FIS - Host to Device"; ACS-3, by the commands'
-- titles): the first of five cases that applies.
use Rattle.std.specs.Prelude.{ℕ, ◌+◌, Bool, ◌==◌, ◌&&◌, ◌||◌, nat_le, nat_lt, max, if◌then◌else◌, List, length, Option, None, Some, is_some, slice_set}
use Rattle.std.specs.List.{list_any}
use Rattle.sata_fis.specs.Places.{byte}
use Rattle.sata_fis.specs.Layout.{h2d_at}
use Rattle.sata_fis.specs.Fields.{H2dFields, QueuedFields}
use Rattle.sata_fis.specs.Command.{queued_in}
use Rattle.ncq_journal.specs.declared.plain.Plain.{Plain}
use Rattle.ncq_journal.specs.declared.plain.Plain.TheVariants as plain
use Rattle.ncq_core.specs.declared.taken.Taken.{Taken}
use Rattle.ncq_core.specs.declared.taken.Taken.TheVariants.{Accepted, Refused}
use Rattle.ncq_core.specs.declared.taken.Taken.TheVariants as taken
use Rattle.ncq_core.specs.DiskState.{DiskState, DiskError, disk_sectors, command_of, is_stopped, no_commands}
use Rattle.ncq_core.specs.DiskFis.{accepted_bytes, aborted_bytes, not_found_bytes}

-- what the disk answers, and the disk afterwards
pub record Verdict : Type 0 where
  pub answer : Taken
  pub state : DiskState

-- the bytes are those of a Register FIS - Host to Device
abbrev pub is_h2d : List ℕ → Bool
is_h2d bytes = byte 0 bytes == 0x27 && length bytes == 20

-- the command that the bytes carry: they are a Register FIS - Host to Device whose C is 1
abbrev pub command_in : List ℕ → Option H2dFields
command_in bytes = if is_h2d bytes && (h2d_at bytes).c then Some (h2d_at bytes) else None

-- READ LOG EXT for page 0 of log 10h
abbrev pub is_read_log : H2dFields → Bool
is_read_log f = f.command == 0x2F && f.lba == 0x10 && f.count == 1

-- the command is refused with ABRT, and nothing changes
abbrev pub aborted : DiskState → Verdict
aborted disk = record { answer = Refused aborted_bytes; state = disk }

-- the command is one that is not queued, for whoever called
abbrev pub passed : DiskState → Plain → Verdict
passed disk command = record { answer = taken.Plain command; state = disk }

-- the command is outstanding at its tag from now on
abbrev pub accepted : DiskState → QueuedFields → Verdict
accepted disk q = record { answer = Accepted accepted_bytes; state = record disk { commands = slice_set disk.commands q.tag (Some q) } }

-- the disk after an error: it has ended every command
abbrev pub stopped_by : DiskState → DiskError → DiskState
stopped_by disk e = record disk { commands = no_commands; error = Some e }

-- the first of the command's sectors that is not on the disk
abbrev pub first_lacking : DiskState → QueuedFields → ℕ
first_lacking disk q = max q.lba (disk_sectors disk)

-- the command passes the last sector, and is refused with IDNF
abbrev pub not_found : DiskState → QueuedFields → Verdict
not_found disk q =
    let lba = first_lacking disk q in
    record { answer = Refused (not_found_bytes lba); state = stopped_by disk (record { tag = q.tag; error = 0x10; lba = lba }) }

-- the tag is at or above the depth, or a command is outstanding at it
abbrev pub is_taken_tag : DiskState → ℕ → Bool
is_taken_tag disk tag = nat_le disk.depth tag || is_some (command_of disk tag)

-- some of the command's sectors are not on the disk
abbrev pub is_past_end : DiskState → QueuedFields → Bool
is_past_end disk q = nat_lt (disk_sectors disk) (q.lba + q.sectors)

-- some command is outstanding
abbrev pub is_busy : DiskState → Bool
is_busy disk = list_any is_some disk.commands

-- a READ or WRITE FPDMA QUEUED
abbrev pub queued_verdict : DiskState → QueuedFields → Verdict
queued_verdict disk q = if is_taken_tag disk q.tag then aborted disk else (if is_past_end disk q then not_found disk q else accepted disk q)

-- a command that waits until no command is outstanding
abbrev pub idle_verdict : DiskState → Plain → Verdict
idle_verdict disk command = if is_busy disk then aborted disk else passed disk command

-- IDENTIFY DEVICE is ECh and FLUSH CACHE EXT EAh; every other command is refused
abbrev pub plain_verdict : DiskState → ℕ → Verdict
plain_verdict disk code =
    if code == 0xEC then idle_verdict disk plain.Identify
    else (if code == 0xEA then idle_verdict disk plain.Flush else aborted disk)

-- a command while there is no error condition
abbrev pub by_kind : DiskState → H2dFields → Option QueuedFields → Verdict
by_kind disk f (Some q) = queued_verdict disk q
by_kind disk f None = plain_verdict disk f.command

-- while there is no error condition; bytes that carry no command are refused
abbrev pub running_verdict : DiskState → Option H2dFields → Verdict
running_verdict disk None = aborted disk
running_verdict disk (Some f) = by_kind disk f (queued_in f)

-- during an error condition only a READ LOG EXT for the page that reports it is let through
abbrev pub stopped_verdict : DiskState → Option H2dFields → Verdict
stopped_verdict disk None = aborted disk
stopped_verdict disk (Some f) = if is_read_log f then passed disk plain.ReadLog else aborted disk

-- what the disk does with these bytes
abbrev pub verdict : DiskState → List ℕ → Verdict
verdict disk bytes = if is_stopped disk then stopped_verdict disk (command_in bytes) else running_verdict disk (command_in bytes)
