-- The pages that the controller's disk answers with (ACS-3, "IDENTIFY DEVICE", "General Purpose Log directory", "NCQ Command
-- Error log").
use Rattle.std.specs.Prelude.{ℕ, ◌+◌, ◌-◌, ◌/◌, ◌%◌, ◌^◌, ◌==◌, ◌&&◌, nat_le, List, [], ◌∷◌, ◌++◌, replicate, if◌then◌else◌}
use Rattle.ncq_core.specs.Identify.{identify_page}
use Rattle.hba_command.specs.MultipleMode.{multiple_word}
use Rattle.hba_command.specs.WideName.{wide_name}
use Rattle.hba_command.specs.Words.{with_text, with_word, with_words}
use Rattle.hba_command.specs.declared.device.Device.{Device}
use Rattle.hba_command.specs.declared.identity.Identity.{Identity}

-- cycle times of 120 ns in words 65 to 68
abbrev pub with_cycle_times : List ℕ → List ℕ
with_cycle_times page = with_word 68 120 (with_word 67 120 (with_word 66 120 (with_word 65 120 page)))

-- a page with what names the disk: serial number, firmware revision, model number, nominal media rotation rate
abbrev pub with_identity : Identity → List ℕ → List ℕ
with_identity i page = with_word 217 i.rotation (with_text 27 i.model 20 (with_text 23 i.firmware 4 (with_text 10 i.serial 10 page)))

-- word 82: what is supported: the SMART feature set (bit 0), the Power Management feature set (3), the volatile write cache (5) if the disk has one, read
-- look-ahead (6), WRITE BUFFER (12) and READ BUFFER (13)
abbrev pub supported : Device → ℕ
supported d = 0x3049 + (if d.has_cache then 0x0020 else 0)

-- word 85: what of that is enabled now; Power Management, WRITE BUFFER and READ BUFFER always are
abbrev pub enabled : Device → ℕ
enabled d = 0x3008 + (if d.smart then 0x0001 else 0) + (if d.cache then 0x0020 else 0) + (if d.look_ahead then 0x0040 else 0)

-- word 86: further ones that are enabled now: the Advanced Power Management feature set (bit 3), and always 48-bit addresses (10), FLUSH CACHE (12),
-- FLUSH CACHE EXT (13); words 119 and 120 are valid (15)
abbrev pub further_enabled : Device → ℕ
further_enabled d = if d.power_level == 0 then 0xB400 else 0xB408

-- a page with what the controller's commands support: beside word 82 in word 83 the same as in word 86, with bit 14, which is 1; in word 84 SMART error
-- logging (0), SMART self-test (1), general purpose logging (5), WRITE DMA FUA EXT and WRITE MULTIPLE FUA EXT (6), and the world wide name (8); in word 119
-- WRITE UNCORRECTABLE EXT (2) and READ LOG DMA EXT (3); bit 14 is 1 in each
abbrev pub with_supported : Device → List ℕ → List ℕ
with_supported d page = with_word 119 0x400C (with_word 84 0x4163 (with_word 83 0x7408 (with_word 82 (supported d) page)))

-- and what they have enabled now; word 91 has the level of Advanced Power Management
abbrev pub with_enabled : Device → List ℕ → List ℕ
with_enabled d page =
    with_word 120 0x400C (with_word 91 d.power_level (with_word 87 0x4163 (with_word 86 (further_enabled d) (with_word 85 (enabled d) page))))

-- word 69: READ BUFFER DMA (bit 11), WRITE BUFFER DMA (10), and, if trimmed sectors read as zeros, deterministic reads (14) and zeros (5) after a trim
abbrev pub further_supported : Device → ℕ
further_supported d = 0x0C00 + (if d.trim_zeros then 0x4020 else 0)

-- a page with further commands and logs: beside word 69 in word 76 that READ LOG DMA EXT does what READ LOG EXT does (15), the SATA Phy Event Counters log
-- (10), NCQ (8), and Gen3, Gen2 and Gen1 (3:1), each of which the link can have; DATA SET MANAGEMENT with at most eight blocks (word 105) and TRIM (word 169, bit 0)
abbrev pub with_commands : Device → List ℕ → List ℕ
with_commands d page = with_word 169 0x0001 (with_word 105 0x0008 (with_word 76 0x850E (with_word 69 (further_supported d) page)))

-- a page with capabilities: in word 47 the most sectors that a block of READ and WRITE MULTIPLE may have, and 80h in its high byte; word 49, DMA (bit 8), LBA
-- (9), and IORDY (11), which may be disabled (10) and goes with PIO modes 3 and 4; bit 14 is 1 in words 48 and 50; in word 59 the blocks that are set
abbrev pub with_capabilities : Device → List ℕ → List ℕ
with_capabilities d page =
    with_word 59 (multiple_word d.multiple) (with_word 50 0x4000 (with_word 49 0x0F00 (with_word 48 0x4000 (with_word 47 0x8010 page))))

-- word 63: multiword DMA modes 0 to 2 are supported (bits 2:0), and that of SET FEATURES 03h is selected (bits 10:8)
abbrev pub multiword_word : (mode : ℕ) → ℕ
multiword_word mode = if nat_le 0x20 mode && nat_le mode 0x22 then 0x0007 + 2 ^ (8 + (mode - 0x20)) else 0x0007

-- word 88: the same of Ultra DMA modes 0 to 5 (bits 5:0 and 13:8). One mode of both words is selected
abbrev pub ultra_word : (mode : ℕ) → ℕ
ultra_word mode = if nat_le 0x40 mode && nat_le mode 0x45 then 0x003F + 2 ^ (8 + (mode - 0x40)) else 0x003F

-- a page with transfer modes: which words are valid (53), multiword DMA modes (63), PIO modes 3 and 4 (64), cycle times, Ultra DMA modes (88)
abbrev pub with_modes : Device → List ℕ → List ℕ
with_modes d page =
    with_word 88 (ultra_word d.dma_mode)
    (with_cycle_times (with_word 64 0x0003 (with_word 63 (multiword_word d.dma_mode) (with_word 53 0x0006 page))))

-- a page with the world wide name in words 108 to 111, its bits 63:48 first
abbrev pub with_name : (name : ℕ) → List ℕ → List ℕ
with_name name page =
    with_word 111 (name % 2 ^ 16) (with_word 110 (name / 2 ^ 16 % 2 ^ 16) (with_word 109 (name / 2 ^ 32 % 2 ^ 16) (with_word 108 (name / 2 ^ 48) page)))

-- the port's page, with what names the disk, transfer modes, and what the controller's commands support and have enabled now
abbrev pub controller_page : ℕ → ℕ → Device → List ℕ
controller_page s d device =
    with_name (wide_name device.identity)
    (with_commands device (with_enabled device (with_supported device (with_modes device
    (with_capabilities device (with_identity device.identity (identify_page s d)))))))

-- a directory of logs with those of the host's, 80h to 9Fh, of 16 pages each
abbrev pub with_host_logs : List ℕ → List ℕ
with_host_logs page = with_words 0x80 16 32 page

-- version 1 in word 0, and in the word of each log how many pages it has
abbrev pub directory_page : List ℕ
directory_page =
    with_host_logs (with_word 0x30 7 (with_word 0x11 1 (with_word 0x10 1 (with_word 0x07 1 (with_word 0x04 2 (with_word 0x03 1 (with_word 0x00 1 (replicate 512 0))))))))

-- bit 7 of byte 0, NQ: no queued command has failed; byte 511 makes the sum 0 modulo 256
abbrev pub not_queued_page : List ℕ
not_queued_page = 0x80 ∷ replicate 510 0 ++ 0x80 ∷ []
