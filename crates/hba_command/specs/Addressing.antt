-- How many bits the LBA of a command has (ACS-3, "28-bit and 48-bit commands"), and where a Register FIS - Device to Host names an LBA (Serial
-- ATA, "Register FIS - Device to Host"): for a command of 28 bits LBA 27:24 are device 3:0, and the bytes of LBA 47:24 are 0.
use Rattle.std.specs.Prelude.{ℕ, ◌/◌, ◌%◌, ◌^◌}
use Rattle.ncq_core.specs.Identify.{within_28_bits}
use Rattle.sata_fis.specs.Fields.{D2hFields}
use Rattle.hba_command.specs.DiskPage.{page_addressing}
use Rattle.hba_command.specs.Store.{store_addressing}
use Rattle.hba_command.specs.declared.action.Action.{Action}
use Rattle.hba_command.specs.declared.action.Action.TheVariants as action
use Rattle.hba_command.specs.declared.addressing.Addressing.{Addressing}
use Rattle.hba_command.specs.declared.addressing.Addressing.TheVariants.{Bits28, Bits48}
use Rattle.hba_command.specs.declared.log.Log.{Log}
use Rattle.hba_command.specs.declared.log.Log.TheVariants as log
use Rattle.hba_command.specs.declared.page.Page.TheVariants as page
use Rattle.hba_command.specs.declared.reply.Reply.{Reply}
use Rattle.hba_command.specs.declared.reply.Reply.TheVariants as reply

-- how many sectors of a disk with so many the commands reach: those of 28 bits no more than words 60 and 61 of IDENTIFY DEVICE say (ACS-3)
abbrev pub reached : Addressing → (sectors : ℕ) → ℕ
reached Bits28 sectors = within_28_bits sectors
reached Bits48 sectors = sectors

abbrev pub addressed : Addressing → D2hFields → ℕ → D2hFields
addressed Bits28 fis lba = record fis { lba = lba % 2 ^ 24; device = lba / 2 ^ 24 % 16 }
addressed Bits48 fis lba = record fis { lba = lba }

-- a command that names no LBA is of 28 bits, if no field of its FIS is wider
abbrev pub reply_addressing : Reply → Addressing
reply_addressing (reply.Verified span) = span.addressing  -- READ VERIFY SECTOR(S), with EXT or without
reply_addressing (reply.Marked span) = span.addressing  -- WRITE UNCORRECTABLE EXT
reply_addressing (reply.NativeMax a) = a  -- READ NATIVE MAX ADDRESS, with EXT or without
reply_addressing reply.Done = Bits28
reply_addressing reply.PowerMode = Bits28
reply_addressing (reply.Entered mode) = Bits28
reply_addressing reply.Diagnosed = Bits28
reply_addressing (reply.Changed c) = Bits28
reply_addressing reply.SmartStatus = Bits28
reply_addressing reply.Packet = Bits28

-- READ LOG EXT and READ LOG DMA EXT are of 48 bits, and SMART READ LOG is of 28
abbrev pub log_addressing : Log → Addressing
log_addressing log.QueuedError = Bits48
log_addressing (log.Pages l pages) = Bits48
log_addressing (log.Host pages) = pages.addressing

abbrev pub addressing_of : Action → Addressing
addressing_of (action.Queue q) = Bits48  -- READ FPDMA QUEUED, WRITE FPDMA QUEUED
addressing_of (action.Sectors write span p) = span.addressing  -- READ SECTOR(S), READ MULTIPLE, READ DMA, and the writes of those names, with EXT or without
addressing_of (action.Page page.Identify p) = Bits28  -- IDENTIFY DEVICE
addressing_of (action.Page (page.Log l) p) = log_addressing l
addressing_of (action.Page (page.Disk ready) p) = page_addressing ready
addressing_of (action.Store s p) = store_addressing s
addressing_of (action.Flush a) = a  -- FLUSH CACHE, with EXT or without
addressing_of (action.Reply r) = reply_addressing r
addressing_of (action.Control reset) = Bits28  -- no command
addressing_of action.Abort = Bits28  -- a command that the disk has not
