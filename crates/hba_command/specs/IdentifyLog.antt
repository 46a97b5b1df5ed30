-- The pages of log 30h (ACS-3, "IDENTIFY DEVICE data log"). Each begins with a header of eight bytes, whose bit 63 is 1 from page 02h on. The other fields
-- have eight bytes too, unless it is said, and bit 63 of each says that it is valid.
use Rattle.std.specs.Prelude.{ℕ, ◌+◌, ◌*◌, ◌/◌, ◌%◌, ◌^◌, List, ◌==◌, if◌then◌else◌, replicate}
use Rattle.hba_command.specs.Pages.{controller_page}
use Rattle.hba_command.specs.WideName.{wide_name}
use Rattle.hba_command.specs.Words.{with_text, with_word}
use Rattle.hba_command.specs.declared.device.Device.{Device}
use Rattle.hba_command.specs.declared.identity.Identity.{Identity}

-- a page with its header alone: the revision 0001h, and the number of the page
abbrev pub headed : (number : ℕ) → List ℕ
headed number = with_word 3 0x8000 (with_word 1 number (with_word 0 0x0001 (replicate 512 0)))

-- page 00h, the list of supported pages: byte 8 says how many there are, and their numbers follow, 00h to 06h
abbrev pub supported_pages : List ℕ
supported_pages = with_word 7 0x0605 (with_word 6 0x0403 (with_word 5 0x0201 (with_word 4 0x0007 (with_word 0 0x0001 (replicate 512 0)))))

-- page 02h, capacity: the number of sectors in bytes 8 to 13; what bytes 16 to 23 say of physical sectors is valid, and says nothing but the
-- default, a logical sector of 512 bytes alone in each
abbrev pub capacity_page : ℕ → List ℕ
capacity_page s = with_word 11 0x8000 (with_word 7 0x8000 (with_word 5 (s / 2 ^ 16) (with_word 4 (s % 2 ^ 16) (headed 0x02))))

-- page 03h, supported capabilities: bytes 8 to 15 have the bits of words 119, 84, 83, 82 and 69 of IDENTIFY DEVICE. Bits 15:0: WRITE UNCORRECTABLE EXT (1), READ LOG DMA EXT (2), SMART error
-- logging (7), SMART self-test (8), general purpose logging (11), WRITE DMA FUA EXT and WRITE MULTIPLE FUA EXT (12); bits 31:16: Advanced Power
-- Management (16), 48-bit addresses (20), FLUSH CACHE EXT (22), SMART (23), the volatile write cache (24), read look-ahead (25), WRITE BUFFER (27), READ BUFFER
-- (28), zeros after a trim (31); bits 47:32: WRITE BUFFER DMA (35), READ BUFFER DMA (36), deterministic reads after a trim (39)
abbrev pub capabilities : Device → ℕ
capabilities d = 0x1AD1 + (if d.has_cache then 0x0100 else 0) + (if d.trim_zeros then 0x8000 else 0)

abbrev pub further_capabilities : Device → ℕ
further_capabilities d = 0x0018 + (if d.trim_zeros then 0x0080 else 0)

-- bytes 56 to 71: the world wide name in bits 63:0, and bit 127 says that it is valid
abbrev pub with_wide_name : (name : ℕ) → List ℕ → List ℕ
with_wide_name name page =
    with_word 35 0x8000 (with_word 31 (name / 2 ^ 48) (with_word 30 (name / 2 ^ 32 % 2 ^ 16) (with_word 29 (name / 2 ^ 16 % 2 ^ 16) (with_word 28 (name % 2 ^ 16) page))))

-- bytes 24 to 31: the nominal media rotation rate; bytes 72 to 79: DATA SET MANAGEMENT, whose bit 0 is TRIM
abbrev pub with_device : Identity → List ℕ → List ℕ
with_device i page =
    with_word 39 0x8000 (with_word 36 0x0001 (with_wide_name (wide_name i) (with_word 15 0x8000 (with_word 12 i.rotation page))))

abbrev pub capabilities_page : Device → List ℕ
capabilities_page d =
    with_device d.identity (with_word 7 0x8000 (with_word 6 (further_capabilities d) (with_word 5 (capabilities d) (with_word 4 0x1986 (headed 0x03)))))

-- page 04h, current settings: in bytes 8 to 15 Advanced Power Management (bit 4), SMART (8), read look-ahead (9), reverting to defaults (13) and the volatile
-- write cache (15) as they are enabled
abbrev pub settings : Device → ℕ
settings d =
    (if d.power_level == 0 then 0 else 0x0010) + (if d.smart then 0x0100 else 0) + (if d.look_ahead then 0x0200 else 0)
    + (if d.reverts then 0x2000 else 0) + (if d.cache then 0x8000 else 0)

-- in bits 15:8 of bytes 16 to 23 the level of Advanced Power Management
abbrev pub settings_page : Device → List ℕ
settings_page d = with_word 11 0x8000 (with_word 8 (256 * d.power_level) (with_word 7 0x8000 (with_word 4 (settings d) (headed 0x04))))

-- page 05h, ATA strings: the serial number from byte 8 on, the firmware revision from byte 32 on, the model number from byte 48 on
abbrev pub strings_page : Identity → List ℕ
strings_page i = with_text 24 i.model 20 (with_text 16 i.firmware 4 (with_text 4 i.serial 10 (headed 0x05)))

-- page 06h, security: bytes 16 to 23, 40 to 47 and 48 to 55 are valid, and say that the Security, the Trusted Computing and the Sanitize Device
-- feature set are not supported
abbrev pub security_page : List ℕ
security_page = with_word 27 0x8000 (with_word 23 0x8000 (with_word 11 0x8000 (headed 0x06)))

-- page 01h is a copy of what IDENTIFY DEVICE reads; the log has no page behind 06h
abbrev pub identify_log_page : (s d : ℕ) → Device → (number : ℕ) → List ℕ
identify_log_page s d device number =
    if number == 0 then supported_pages
    else (if number == 1 then controller_page s d device
    else (if number == 2 then capacity_page s
    else (if number == 3 then capabilities_page device
    else (if number == 4 then settings_page device
    else (if number == 5 then strings_page device.identity
    else security_page)))))
