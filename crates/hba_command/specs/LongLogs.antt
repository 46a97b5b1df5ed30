-- The pages of the logs that have several. Each page of log 04h begins with a header of eight bytes: the revision 0001h, and the number of the page in byte 2. The
-- other fields have eight bytes too.
use Rattle.std.specs.Prelude.{ℕ, List, ◌==◌, if◌then◌else◌, replicate}
use Rattle.std.specs.List.{flat_map, range_with_len}
use Rattle.hba_command.specs.IdentifyLog.{identify_log_page}
use Rattle.hba_command.specs.Words.{with_word}
use Rattle.hba_command.specs.declared.device.Device.{Device}
use Rattle.hba_command.specs.declared.log.LongLog.{LongLog}
use Rattle.hba_command.specs.declared.log.LongLog.TheVariants.{Statistics, IdentifyData}

-- log 04h (ACS-3, "Device Statistics log"): bit 63 of a field says that the statistic is supported, and bit 62 that its value is valid

-- page 00h, the list of supported pages, 00h and 01h
abbrev pub statistics_list : List ℕ
statistics_list = with_word 5 0x0001 (with_word 4 0x0002 (with_word 0 0x0001 (replicate 512 0)))

-- page 01h, "General Statistics": of its statistics only the power-on hours are supported, in bytes 16 to 23. They are 0, since no time passes (profile)
abbrev pub general_page : List ℕ
general_page = with_word 11 0xC000 (with_word 1 0x0001 (with_word 0 0x0001 (replicate 512 0)))

abbrev pub statistics_page : (number : ℕ) → List ℕ
statistics_page number = if number == 0 then statistics_list else general_page

abbrev pub long_log_page : LongLog → (s d : ℕ) → Device → (number : ℕ) → List ℕ
long_log_page Statistics s d device number = statistics_page number
long_log_page IdentifyData s d device number = identify_log_page s d device number

-- so many pages from a number on, joined
abbrev pub long_log_pages : LongLog → (s d : ℕ) → Device → (first count : ℕ) → List ℕ
long_log_pages log s d device first count = flat_map (long_log_page log s d device) (range_with_len first count)
