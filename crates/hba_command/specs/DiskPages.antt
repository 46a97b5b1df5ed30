-- What the pages say that the disk has ready (ACS-3, by the titles of commands and logs).
use Rattle.std.specs.Prelude.{List, ℕ, replicate}
use Rattle.hba_command.specs.Pages.{directory_page, with_host_logs}
use Rattle.hba_command.specs.PhyEvents.{events_page}
use Rattle.hba_command.specs.Words.{with_checksum, with_word}
use Rattle.hba_command.specs.declared.device.Device.{Device}
use Rattle.hba_command.specs.declared.disk_page.DiskPage.{DiskPage}
use Rattle.hba_command.specs.declared.disk_page.DiskPage.TheVariants.{Directory, Errors, Tests, PhyEvents, SmartData, SmartThresholds, SmartDirectory, SmartErrors, SmartTests, Buffer}

-- the revision, and no entry: a log of errors with none, whose index and count are 0, and thresholds of no attributes
abbrev pub revision_page : List ℕ
revision_page = with_word 0 0x0001 (replicate 512 0)

-- "SMART READ DATA": no attributes; byte 362: the off-line data are collected without error; byte 363: so was the self-test; byte 367: EXECUTE OFF-LINE IMMEDIATE
-- (bit 0), short and extended self-test (4); bytes 368 and 369: SMART data are saved before a power mode changes (0), and by autosave (1); byte 370: errors are logged (0);
-- bytes 372 and 373: a short or extended self-test takes a minute at most
abbrev pub smart_data : List ℕ
smart_data =
    with_word 186 0x0101 (with_word 185 0x0001 (with_word 184 0x0003 (with_word 183 0x1100 (with_word 181 0x0002 (with_word 0 0x0001 (replicate 512 0))))))

-- version 1 in word 0, and in the words of logs 01h, 06h and those of the host's how many pages they have
abbrev pub smart_directory : List ℕ
smart_directory = with_host_logs (with_word 0x06 1 (with_word 0x01 1 (with_word 0x00 1 (replicate 512 0))))

abbrev pub ready_page : Device → DiskPage → List ℕ
ready_page d Directory = directory_page
ready_page d Errors = with_checksum revision_page
ready_page d Tests = with_checksum d.more_tests
ready_page d (PhyEvents resets) = with_checksum (events_page d.phy)
ready_page d SmartData = with_checksum smart_data
ready_page d SmartThresholds = with_checksum revision_page
ready_page d SmartDirectory = smart_directory
ready_page d SmartErrors = with_checksum revision_page
ready_page d SmartTests = with_checksum d.tests
ready_page d Buffer = d.buffer
