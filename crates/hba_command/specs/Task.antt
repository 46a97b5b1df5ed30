-- What a command FIS asks of the disk (ACS-3, by the commands' titles; Serial ATA, "Register FIS - Host to Device").
use Rattle.std.specs.Prelude.{ℕ, ◌+◌, ◌*◌, ◌/◌, ◌%◌, ◌^◌, Bool, true, false, ◌==◌, ◌&&◌, ◌||◌, not, nat_le, Option, Some, None, if◌then◌else◌}
use Rattle.sata_fis.specs.Command.{queued_in}
use Rattle.sata_fis.specs.Fields.{H2dFields, QueuedFields}
use Rattle.sata_fis.specs.Places.{bit}
use Rattle.hba_command.specs.HostPages.{HostPagesFields}
use Rattle.hba_command.specs.LogPages.{LogPagesFields}
use Rattle.hba_command.specs.Span.{SpanFields}
use Rattle.hba_command.specs.declared.addressing.Addressing.TheVariants.{Bits28, Bits48}
use Rattle.hba_command.specs.declared.change.Change.TheVariants.{WriteCache, LookAhead, PowerLevel, Reverting, DmaMode, Multiple as Blocks, Smart, Test, NothingSmart}
use Rattle.hba_command.specs.declared.disk_page.DiskPage.TheVariants.{Directory, Errors, Tests, PhyEvents, SmartData, SmartThresholds, SmartDirectory, SmartErrors, SmartTests, Buffer}
use Rattle.hba_command.specs.declared.log.Log.TheVariants.{Host, Pages, QueuedError}
use Rattle.hba_command.specs.declared.log.LongLog.TheVariants.{Statistics, IdentifyData}
use Rattle.hba_command.specs.declared.multiple_mode.MultipleMode.TheVariants.{Disabled, One, Two, Four, Eight, Sixteen}
use Rattle.hba_command.specs.declared.protocol.Protocol.{Protocol}
use Rattle.hba_command.specs.declared.protocol.Protocol.TheVariants.{Pio, Multiple, Dma}
use Rattle.hba_command.specs.declared.store.Store.TheVariants as store
use Rattle.hba_command.specs.declared.task.Task.{Task}
use Rattle.hba_command.specs.declared.task.Task.TheVariants.{Queue, Read, Write, Verify, Mark, Flush, Identify, ReadLog, ReadPage, Store, Change, SmartStatus, NativeMax, PowerMode, Idle, Standby, Sleep, Diagnose, Nothing, Control, Packet, Unknown}

-- a count of 0 means the most that the field can name and one
abbrev pub counted : ℕ → ℕ → ℕ
counted most count = if count == 0 then most else count

-- commands of 28 bits: LBA 27:24 are device 3:0, and the count has eight bits
abbrev pub short_span : H2dFields → SpanFields
short_span f = record { lba = f.lba % 2 ^ 24 + 2 ^ 24 * (f.device % 16); sectors = counted 256 (f.count % 256); addressing = Bits28 }

-- commands of 48 bits
abbrev pub long_span : H2dFields → SpanFields
long_span f = record { lba = f.lba; sectors = counted 65536 f.count; addressing = Bits48 }

-- the log is LBA 7:0, and the first page LBA 15:8 and 39:32
abbrev pub log_of : H2dFields → ℕ
log_of f = f.lba % 256

abbrev pub first_page : H2dFields → ℕ
first_page f = f.lba / 2 ^ 8 % 256 + 256 * (f.lba / 2 ^ 32 % 256)

-- log 00h is the directory, log 03h the Extended Comprehensive SMART Error log, log 04h the Device Statistics log, log 07h the Extended SMART
-- Self-Test log, log 10h the NCQ Command Error log, log 11h the SATA Phy Event Counters log, log 30h the IDENTIFY DEVICE data log, and logs 80h to 9Fh are
-- the host's; there is no other. Bit 0 of features resets the counters of log 11h once they are read
abbrev pub is_host_log : (log : ℕ) → Bool
is_host_log log = nat_le 0x80 log && nat_le log 0x9F

abbrev pub pages_in : ℕ → ℕ
pages_in log =
    if log == 0x00 || log == 0x03 || log == 0x07 || log == 0x10 || log == 0x11 then 1
    else (if log == 0x04 then 2 else (if log == 0x30 then 7 else (if is_host_log log then 16 else 0)))

-- the count is of pages that the log has, at least one
abbrev pub is_in_log : H2dFields → Bool
is_in_log f = not (f.count == 0) && nat_le (first_page f + f.count) (pages_in (log_of f))

abbrev pub pages_asked : H2dFields → LogPagesFields
pages_asked f = record { first = first_page f; count = f.count }

abbrev pub host_pages_asked : H2dFields → HostPagesFields
host_pages_asked f = record { log = log_of f; first = first_page f; count = f.count; addressing = Bits48 }

abbrev pub log_task : H2dFields → Protocol → Task
log_task f p =
    if not (is_in_log f) then Unknown
    else (if log_of f == 0x00 then ReadPage Directory p
    else (if log_of f == 0x03 then ReadPage Errors p
    else (if log_of f == 0x04 then ReadLog (Pages Statistics (pages_asked f)) p
    else (if log_of f == 0x07 then ReadPage Tests p
    else (if log_of f == 0x10 then ReadLog QueuedError p
    else (if log_of f == 0x11 then ReadPage (PhyEvents (f.features % 2 == 1)) p
    else (if log_of f == 0x30 then ReadLog (Pages IdentifyData (pages_asked f)) p
    else (if is_host_log (log_of f) then ReadLog (Host (host_pages_asked f)) p
    else Unknown))))))))

-- WRITE LOG EXT and WRITE LOG DMA EXT: the host writes its own logs alone; each other one is read-only
abbrev pub write_log_task : H2dFields → Protocol → Task
write_log_task f p = if is_host_log (log_of f) && is_in_log f then Store (store.Log (host_pages_asked f)) p else Unknown

-- SET FEATURES 03h (ACS-3, "Set transfer mode"), by its count: the default PIO mode, and PIO modes 0 to 4, which no word of IDENTIFY DEVICE shows; multiword
-- DMA modes 0 to 2, and Ultra DMA modes 0 to 5
abbrev pub is_pio_mode : ℕ → Bool
is_pio_mode m = m == 0x00 || m == 0x01 || (nat_le 0x08 m && nat_le m 0x0C)

abbrev pub is_dma_mode : ℕ → Bool
is_dma_mode m = (nat_le 0x20 m && nat_le m 0x22) || (nat_le 0x40 m && nat_le m 0x45)

abbrev pub transfer_task : ℕ → Task
transfer_task m = if is_pio_mode m then Nothing else (if is_dma_mode m then Change (DmaMode m) else Unknown)

-- SET FEATURES, by its subcommand: the level of Advanced Power Management is 01h to FEh
abbrev pub features_task : (subcommand count : ℕ) → Task
features_task subcommand count =
    if subcommand == 0x02 then Change (WriteCache true)  -- enable the volatile write cache
    else (if subcommand == 0x03 then transfer_task (count % 256)  -- set transfer mode
    else (if subcommand == 0x05 && not (count % 256 == 0) && not (count % 256 == 0xFF) then Change (PowerLevel (count % 256))  -- enable the APM feature set
    else (if subcommand == 0x55 then Change (LookAhead false)  -- disable read look-ahead
    else (if subcommand == 0x66 then Change (Reverting false)  -- disable reverting to defaults
    else (if subcommand == 0x82 then Change (WriteCache false)  -- disable the volatile write cache
    else (if subcommand == 0x85 then Change (PowerLevel 0)  -- disable the APM feature set
    else (if subcommand == 0xAA then Change (LookAhead true)  -- enable read look-ahead
    else (if subcommand == 0xCC then Change (Reverting true)  -- enable reverting to defaults
    else Unknown))))))))

-- SMART EXECUTE OFF-LINE IMMEDIATE, by its subcommand: the off-line routine and the abort of a self-test have nothing to do; the short and the extended
-- self-test, off-line and captive
abbrev pub offline_task : ℕ → Task
offline_task subcommand =
    if subcommand == 0x00 || subcommand == 0x7F then Change NothingSmart
    else (if subcommand == 0x01 || subcommand == 0x02 || subcommand == 0x81 || subcommand == 0x82 then Change (Test subcommand)
    else Unknown)

-- SMART READ LOG and SMART WRITE LOG name the log by LBA 7:0, and how many of its pages, from the first one on: of one of the host's 1 to 16
abbrev pub smart_pages : (log count : ℕ) → HostPagesFields
smart_pages log count = record { log = log; first = 0; count = count; addressing = Bits28 }

abbrev pub names_host_pages : (log count : ℕ) → Bool
names_host_pages log count = is_host_log log && nat_le 1 count && nat_le count 16

-- of each other log SMART READ LOG reads its one page
abbrev pub smart_page_task : (log : ℕ) → Task
smart_page_task log =
    if log == 0x00 then ReadPage SmartDirectory Pio
    else (if log == 0x01 then ReadPage SmartErrors Pio
    else (if log == 0x06 then ReadPage SmartTests Pio
    else Unknown))

abbrev pub smart_read_task : (log count : ℕ) → Task
smart_read_task log count =
    if names_host_pages log count then ReadLog (Host (smart_pages log count)) Pio else (if count == 1 then smart_page_task log else Unknown)

abbrev pub smart_write_task : (log count : ℕ) → Task
smart_write_task log count = if names_host_pages log count then Store (store.Log (smart_pages log count)) Pio else Unknown

-- SMART, by its subcommand, with LBA 7:0 and the count
abbrev pub smart_task : (subcommand low count : ℕ) → Task
smart_task subcommand low count =
    if subcommand == 0xD0 then ReadPage SmartData Pio  -- SMART READ DATA
    else (if subcommand == 0xD1 then ReadPage SmartThresholds Pio  -- SMART READ THRESHOLDS
    else (if subcommand == 0xD2 && (count % 256 == 0x00 || count % 256 == 0xF1) then Change NothingSmart  -- SMART ENABLE/DISABLE ATTRIBUTE AUTOSAVE
    else (if subcommand == 0xD4 then offline_task low  -- SMART EXECUTE OFF-LINE IMMEDIATE
    else (if subcommand == 0xD5 then smart_read_task low (count % 256)  -- SMART READ LOG
    else (if subcommand == 0xD6 then smart_write_task low (count % 256)  -- SMART WRITE LOG
    else (if subcommand == 0xD8 then Change (Smart true)  -- SMART ENABLE OPERATIONS
    else (if subcommand == 0xD9 then Change (Smart false)  -- SMART DISABLE OPERATIONS
    else (if subcommand == 0xDA then SmartStatus  -- SMART RETURN STATUS
    else Unknown))))))))

-- by the code of a command of settings, of SMART, whose LBA 23:8 is C24Fh, or of data that are no sectors
abbrev pub settings_task : ℕ → H2dFields → Task
settings_task code f =
    if code == 0x06 && f.features % 256 % 2 == 1 && nat_le 1 f.count && nat_le f.count 8 then Store (store.Trim f.count) Dma  -- DATA SET MANAGEMENT with TRIM
    else (if code == 0xB0 && f.lba / 2 ^ 8 % 2 ^ 16 == 0xC24F then smart_task (f.features % 256) (f.lba % 256) f.count  -- SMART
    else (if code == 0xE4 then ReadPage Buffer Pio  -- READ BUFFER
    else (if code == 0xE8 then Store store.Buffer Pio  -- WRITE BUFFER
    else (if code == 0xE9 then ReadPage Buffer Dma  -- READ BUFFER DMA
    else (if code == 0xEB then Store store.Buffer Dma  -- WRITE BUFFER DMA
    else (if code == 0xEF then features_task (f.features % 256) f.count  -- SET FEATURES
    else Unknown))))))

-- SET MULTIPLE MODE, by its count: 0 disables READ and WRITE MULTIPLE (profile), and a block has a power of two of sectors, up to the most that word 47
-- of IDENTIFY DEVICE reports, 16
abbrev pub mode_task : ℕ → Task
mode_task count =
    if count == 0 then Change (Blocks Disabled)
    else (if count == 1 then Change (Blocks One)
    else (if count == 2 then Change (Blocks Two)
    else (if count == 4 then Change (Blocks Four)
    else (if count == 8 then Change (Blocks Eight)
    else (if count == 16 then Change (Blocks Sixteen)
    else Unknown)))))

-- by the code of a command of blocks of several sectors, or of those above
abbrev pub multiple_task : ℕ → H2dFields → Task
multiple_task code f =
    if code == 0x29 then Read (long_span f) Multiple  -- READ MULTIPLE EXT
    else (if code == 0x39 then Write (long_span f) Multiple  -- WRITE MULTIPLE EXT
    else (if code == 0xC4 then Read (short_span f) Multiple  -- READ MULTIPLE
    else (if code == 0xC5 then Write (short_span f) Multiple  -- WRITE MULTIPLE
    else (if code == 0xC6 then mode_task (f.count % 256)  -- SET MULTIPLE MODE
    else (if code == 0xCE then Write (long_span f) Multiple  -- WRITE MULTIPLE FUA EXT
    else settings_task code f)))))

-- WRITE UNCORRECTABLE EXT, by its features: pseudo-uncorrectable sectors with logging (55h) and without (5Ah), flagged ones with logging (A5h) and without
-- (AAh); other values are reserved
abbrev pub marks_sectors : ℕ → Bool
marks_sectors features = features == 0x55 || features == 0x5A || features == 0xA5 || features == 0xAA

abbrev pub mark_task : H2dFields → Task
mark_task f = if marks_sectors (f.features % 256) then Mark (long_span f) else Unknown

-- by the code of a command that is not queued
abbrev pub task_by : ℕ → H2dFields → Task
task_by code f =
    if code == 0x20 then Read (short_span f) Pio  -- READ SECTOR(S)
    else (if code == 0x24 then Read (long_span f) Pio  -- READ SECTOR(S) EXT
    else (if code == 0x25 then Read (long_span f) Dma  -- READ DMA EXT
    else (if code == 0x27 then NativeMax Bits48  -- READ NATIVE MAX ADDRESS EXT
    else (if code == 0x2F then log_task f Pio  -- READ LOG EXT
    else (if code == 0x30 then Write (short_span f) Pio  -- WRITE SECTOR(S)
    else (if code == 0x34 then Write (long_span f) Pio  -- WRITE SECTOR(S) EXT
    else (if code == 0x35 then Write (long_span f) Dma  -- WRITE DMA EXT
    else (if code == 0x3D then Write (long_span f) Dma  -- WRITE DMA FUA EXT
    else (if code == 0x3F then write_log_task f Pio  -- WRITE LOG EXT
    else (if code == 0x40 then Verify (short_span f)  -- READ VERIFY SECTOR(S)
    else (if code == 0x42 then Verify (long_span f)  -- READ VERIFY SECTOR(S) EXT
    else (if code == 0x45 then mark_task f  -- WRITE UNCORRECTABLE EXT
    else (if code == 0x47 then log_task f Dma  -- READ LOG DMA EXT
    else (if code == 0x57 then write_log_task f Dma  -- WRITE LOG DMA EXT
    else (if code == 0x90 then Diagnose  -- EXECUTE DEVICE DIAGNOSTIC
    else (if code == 0xA1 then Packet  -- IDENTIFY PACKET DEVICE
    else (if code == 0xC8 then Read (short_span f) Dma  -- READ DMA
    else (if code == 0xCA then Write (short_span f) Dma  -- WRITE DMA
    else (if code == 0xE0 || code == 0xE2 then Standby  -- STANDBY IMMEDIATE, STANDBY
    else (if code == 0xE1 || code == 0xE3 then Idle  -- IDLE IMMEDIATE, IDLE
    else (if code == 0xE5 then PowerMode  -- CHECK POWER MODE
    else (if code == 0xE6 then Sleep  -- SLEEP
    else (if code == 0xE7 then Flush Bits28  -- FLUSH CACHE
    else (if code == 0xEA then Flush Bits48  -- FLUSH CACHE EXT
    else (if code == 0xEC then Identify  -- IDENTIFY DEVICE
    else (if code == 0xF8 then NativeMax Bits28  -- READ NATIVE MAX ADDRESS
    else multiple_task code f))))))))))))))))))))))))))

-- a queued command, else one that is not
abbrev pub command_task : H2dFields → Option QueuedFields → Task
command_task f (Some q) = Queue q
command_task f None = task_by f.command f

-- bit C distinguishes a command from the device control register, whose bit 2 is SRST
abbrev pub task_of : H2dFields → Task
task_of f = if f.c then command_task f (queued_in f) else Control (bit 2 f.control)
