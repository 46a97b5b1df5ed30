-- What the device does with data that are no sectors (ACS-3, "WRITE BUFFER", "WRITE BUFFER DMA", "DATA SET MANAGEMENT", "WRITE LOG EXT", "WRITE LOG DMA EXT" and
-- "SMART WRITE LOG").
use Rattle.std.specs.Prelude.{ℕ, ◌*◌, Bool, true, false, List, [], Option, Some, if◌then◌else◌}
use Rattle.sata_fis.specs.Fields.{D2hFields}
use Rattle.hba_command.specs.Device.{after_store, allows_log}
use Rattle.hba_command.specs.HostLogs.{rewritten}
use Rattle.hba_command.specs.HostPages.{HostPagesFields}
use Rattle.hba_command.specs.Store.{blocks_of, leaves_disk}
use Rattle.hba_command.specs.declared.device.Device.{Device}
use Rattle.hba_command.specs.declared.entry.PrdEntry.{PrdEntry}
use Rattle.hba_command.specs.declared.host_page.HostPage.{HostPage}
use Rattle.hba_command.specs.declared.protocol.Protocol.{Protocol}
use Rattle.hba_command.specs.declared.protocol.Protocol.TheVariants.{Dma}
use Rattle.hba_command.specs.declared.store.Store.{Store}
use Rattle.hba_command.specs.declared.store.Store.TheVariants.{Buffer, Log, Trim}
use Rattle.hba_memory.specs.Processing.{has_processed}
use Rattle.ahci_port.specs.PortView.{PortView, sectors_in}
use Rattle.ahci_hba.specs.Delivering.{aborted, beginning, closing, done}
use Rattle.ahci_hba.specs.Failing.{concluded, vacated}
use Rattle.ahci_hba.specs.HbaView.{CommandView, Fetched, HbaView, Pio}
use Rattle.ahci_hba.specs.Keeping.{keeping}
use Rattle.ahci_hba.specs.Logging.{logging}
use Rattle.ahci_hba.specs.Transfer.{first_block, writing_log}

-- the data of a slot's command that was read
abbrev pub content_in : Option CommandView → List ℕ
content_in (Some (Fetched t list bytes)) = bytes
content_in other = []

-- the answer: a trim with a range that names a sector that is not on the disk is aborted. IDNF is for an address where "command aborted is not returned" (ACS-3, "Error
-- field", ID Not Found bit)
abbrev pub store_fis : PortView → Store → List ℕ → D2hFields
store_fis port (Trim blocks) bytes = if leaves_disk (sectors_in port) bytes then aborted else done
store_fis port Buffer bytes = done
store_fis port (Log pages) bytes = done

-- so many blocks have gone to the device, by PIO one after the other
abbrev pub taken_by : HbaView → ℕ → Protocol → List PrdEntry → ℕ → D2hFields → HbaView
taken_by h slot Dma list n fis = closing h slot (512 * n) (has_processed list (512 * n)) fis
taken_by h slot p list n fis = beginning h slot true n 1 (record { list = list; bytes = [] }) (Some fis)

abbrev pub kept_at_once : HbaView → ℕ → Store → Protocol → List PrdEntry → List ℕ → HbaView
kept_at_once h slot s p list bytes = taken_by (keeping (vacated h slot) (after_store s bytes h.device)) slot p list (blocks_of s) (store_fis h.port s bytes)

-- so many blocks are the data of a log: by DMA it is written at once, and by PIO when all blocks have come, so that a command that is dropped before has
-- written no page
abbrev pub log_taken_by : HbaView → ℕ → Protocol → List PrdEntry → (blocks : ℕ) → (logs : List HostPage) → HbaView
log_taken_by h slot Dma list n logs = closing (logging h logs) slot (512 * n) (has_processed list (512 * n)) done
log_taken_by h slot p list n logs = record h { dma = Pio (writing_log (first_block slot true n 1 (record { list = list; bytes = [] }) (Some done)) logs) }

-- a log of the host's is written, or the command is aborted
abbrev pub log_stored : HbaView → ℕ → HostPagesFields → Protocol → List PrdEntry → List ℕ → HbaView
log_stored h slot pages p list bytes =
    if allows_log h.device pages then log_taken_by (vacated h slot) slot p list pages.count (rewritten pages bytes h.logs) else concluded h slot aborted

abbrev pub stored : HbaView → ℕ → Store → Protocol → List PrdEntry → List ℕ → HbaView
stored h slot (Log pages) p list bytes = log_stored h slot pages p list bytes
stored h slot Buffer p list bytes = kept_at_once h slot Buffer p list bytes
stored h slot (Trim blocks) p list bytes = kept_at_once h slot (Trim blocks) p list bytes

-- memory is allocated for a log that is written
abbrev pub writes_log : Device → Store → Bool
writes_log d (Log pages) = allows_log d pages
writes_log d Buffer = false
writes_log d (Trim blocks) = false
