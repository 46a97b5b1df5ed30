-- What the disk keeps between commands, and what changes it (ACS-3, "SET FEATURES", "SET MULTIPLE MODE", "SMART" and "WRITE BUFFER", by the titles of
-- subcommands).
use Rattle.std.specs.Prelude.{ℕ, ◌+◌, ◌-◌, ◌*◌, ◌%◌, Bool, true, false, not, ◌==◌, ◌&&◌, ◌||◌, List, Option, None, Some, length, replicate, slice_index, slice_set, if◌then◌else◌}
use Rattle.sata_fis.specs.Places.{bit}
use Rattle.hba_command.specs.DiskPage.{needs_smart}
use Rattle.hba_command.specs.HostPages.{HostPagesFields}
use Rattle.hba_command.specs.Identity.{usual_identity}
use Rattle.hba_command.specs.PhyEvents.{no_events, with_ending, with_signature}
use Rattle.hba_command.specs.Words.{with_word}
use Rattle.hba_command.specs.declared.addressing.Addressing.{Addressing}
use Rattle.hba_command.specs.declared.addressing.Addressing.TheVariants.{Bits28, Bits48}
use Rattle.hba_command.specs.declared.change.Change.{Change}
use Rattle.hba_command.specs.declared.change.Change.TheVariants.{WriteCache, LookAhead, PowerLevel, Reverting, DmaMode, Multiple, Smart, Test, NothingSmart}
use Rattle.hba_command.specs.declared.device.Device.{Device}
use Rattle.hba_command.specs.declared.disk_page.DiskPage.{DiskPage}
use Rattle.hba_command.specs.declared.disk_page.DiskPage.TheVariants.{PhyEvents}
use Rattle.hba_command.specs.declared.identity.Identity.{Identity}
use Rattle.hba_command.specs.declared.multiple_mode.MultipleMode.TheVariants.{Disabled}
use Rattle.hba_command.specs.declared.reply.Reply.{Reply}
use Rattle.hba_command.specs.declared.reply.Reply.TheVariants.{Changed}
use Rattle.hba_command.specs.declared.store.Store.{Store}
use Rattle.hba_command.specs.declared.store.Store.TheVariants.{Buffer, Log, Trim}

-- a disk that has never been used, without a volatile write cache, to which a trim is advice; look-ahead and SMART operations are enabled, Advanced Power Management, READ
-- and WRITE MULTIPLE are not, Ultra DMA mode 5 is selected, and a software reset leaves the settings (profile)
unfoldable pub new_device : Device
new_device = record {
  identity = usual_identity;
  has_cache = false;
  cache = false;
  trim_zeros = false;
  look_ahead = true;
  power_level = 0;
  reverts = false;
  dma_mode = 0x45;
  multiple = Disabled;
  smart = true;
  tests = with_word 0 0x0001 (replicate 512 0);
  more_tests = with_word 0 0x0001 (replicate 512 0);
  buffer = replicate 512 0;
  collision = None;
  phy = no_events;
}

-- a disk with a volatile write cache has it enabled (profile)
abbrev pub with_cache : Bool → Device → Device
with_cache has d = record d { has_cache = has; cache = has }

-- trimmed sectors read as zeros, or a trim is advice
abbrev pub with_trim_zeros : Bool → Device → Device
with_trim_zeros trim_zeros d = record d { trim_zeros = trim_zeros }

abbrev pub named : Identity → Device → Device
named identity d = record d { identity = identity }

-- a hardware reset or power-on: the settings of SET FEATURES and SET MULTIPLE MODE are the defaults. SMART stays enabled or disabled ("SMART ENABLE OPERATIONS"), and its
-- logs stay, and so do the Phy event counters (Serial ATA, "Phy Event Counters"); an error that is pending for log 10h is gone
abbrev pub reset_device : Device → Device
reset_device d =
    record d { cache = d.has_cache; look_ahead = true; power_level = 0; reverts = false; dma_mode = 0x45; multiple = Disabled; collision = None }

-- power-on: the counters aren't kept over a power cycle
abbrev pub power_cycled : Device → Device
power_cycled d = record (reset_device d) { phy = no_events }

-- a software reset: it reverts to the defaults only if SET FEATURES CCh has enabled that ("Enable/disable reverting to defaults"); it ends an error that is
-- pending for log 10h
abbrev pub after_srst : Device → Device
after_srst d = if d.reverts then reset_device d else record d { collision = None }

-- a command has ended with this status and error. If it is not queued, and has come while queued ones were outstanding, ERR (bit 0 of the status) aborts them
-- too (ACS-3, "Native Command Queuing"), and its error is pending until log 10h is read
abbrev pub collided : (comes_under_queued : Bool) → (status error : ℕ) → Option ℕ → Option ℕ
collided comes_under_queued status error was = if comes_under_queued && bit 0 status then Some error else was

abbrev pub after_ending : (comes_under_queued : Bool) → (status error : ℕ) → Device → Device
after_ending comes_under_queued status error d =
    record d { collision = collided comes_under_queued status error d.collision; phy = with_ending status error d.phy }

-- log 10h is read
abbrev pub after_error_log : Device → Device
after_error_log d = record d { collision = None }

-- the signature is sent, because of a COMRESET or not
abbrev pub after_signature : (by_comreset : Bool) → Device → Device
after_signature by_comreset d = if by_comreset then record d { phy = with_signature d.phy } else d

-- a page that the disk has ready is read: the counters of log 11h are reset then, if the command says so
abbrev pub after_page : DiskPage → Device → Device
after_page (PhyEvents true) d = record d { phy = no_events }
after_page page d = d

-- a volatile write cache that is not there can be neither enabled nor disabled; while SMART operations are disabled, SMART ENABLE OPERATIONS is the
-- only subcommand of SMART that is not aborted
abbrev pub allows : Device → Change → Bool
allows d (WriteCache enabled) = d.has_cache
allows d (LookAhead enabled) = true
allows d (PowerLevel level) = true
allows d (Reverting reverts) = true
allows d (DmaMode mode) = true
allows d (Multiple mode) = true
allows d (Smart enabled) = enabled || d.smart
allows d (Test test) = d.smart
allows d NothingSmart = d.smart

-- the log of one more self-test: the entries of 24 bytes from byte 2 on are written in turn, 21 of them, and byte 508 has the number of the newest
-- ("SMART Self-Test log"). An entry begins with the number of the test; its status and its other bytes are 0: completed without error
abbrev pub newest_of_21 : List ℕ → ℕ
newest_of_21 log = slice_index log 508 % 21 + 1

abbrev pub tested : ℕ → List ℕ → List ℕ
tested test log = slice_set (slice_set log (24 * newest_of_21 log - 22) test) 508 (newest_of_21 log)

-- the entries of 26 bytes from byte 4 on are written in turn, 19 of them, and byte 2 has the number of the newest ("Extended SMART Self-Test log")
abbrev pub newest_of_19 : List ℕ → ℕ
newest_of_19 log = slice_index log 2 % 19 + 1

abbrev pub more_tested : ℕ → List ℕ → List ℕ
more_tested test log = slice_set (slice_set log (26 * newest_of_19 log - 22) test) 2 (newest_of_19 log)

abbrev pub changed : Change → Device → Device
changed (WriteCache enabled) d = record d { cache = enabled }
changed (LookAhead enabled) d = record d { look_ahead = enabled }
changed (PowerLevel level) d = record d { power_level = level }
changed (Reverting reverts) d = record d { reverts = reverts }
changed (DmaMode mode) d = record d { dma_mode = mode }
changed (Multiple mode) d = record d { multiple = mode }
changed (Smart enabled) d = record d { smart = enabled }
changed (Test test) d = record d { tests = tested test d.tests; more_tests = more_tested test d.more_tests }
changed NothingSmart d = d

abbrev pub after_change : Change → Device → Device
after_change c d = if allows d c then changed c d else d

-- the disk behind a command that moves nothing
abbrev pub device_after_reply : Reply → Device → Device
device_after_reply (Changed c) d = after_change c d
device_after_reply other d = d

-- a page of the SMART feature set is read while SMART operations are enabled
abbrev pub allows_page : Device → DiskPage → Bool
allows_page d page = d.smart || not (needs_smart page)

-- so is a log of the host's read and written by SMART, whose commands are of 28 bits; by those of 48 it always is
abbrev pub is_of_smart : Addressing → Bool
is_of_smart Bits28 = true
is_of_smart Bits48 = false

abbrev pub allows_log : Device → HostPagesFields → Bool
allows_log d pages = d.smart || not (is_of_smart pages.addressing)

-- WRITE BUFFER has 512 bytes
abbrev pub buffered : List ℕ → Device → Device
buffered bytes d = if length bytes == 512 then record d { buffer = bytes } else d

-- ranges that are trimmed and the logs of the host's aren't among these settings
abbrev pub after_store : Store → List ℕ → Device → Device
after_store Buffer bytes d = buffered bytes d
after_store (Trim blocks) bytes d = d
after_store (Log pages) bytes d = d
