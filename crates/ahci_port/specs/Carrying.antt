-- How a command that is not queued is carried out in slot 0 (AHCI 1.3.1, sections 4.2.2 and 4.2.3; ACS-3, IDENTIFY DEVICE,
-- FLUSH CACHE EXT and READ LOG EXT).
use Rattle.std.specs.Prelude.{◌≡◌, ℕ, true, false, List, None, IsSomeAnd}
use Rattle.ahci_regs.specs.PortState.{PortState}
use Rattle.ahci_regs.specs.Receiving.{after_register}
use Rattle.ncq_core.specs.DiskFis.{flushed_bytes, pio_bytes}
use Rattle.ncq_core.specs.DiskState.{DiskState, disk_sectors, is_stopped}
use Rattle.ncq_core.specs.Identify.{identify_page}
use Rattle.ncq_core.specs.Log.{log_page}
use Rattle.ncq_core.specs.Verdict.{is_busy}
use Rattle.ncq_journal.specs.declared.plain.Plain.{Plain}
use Rattle.ncq_journal.specs.declared.plain.Plain.TheVariants.{Identify, Flush, ReadLog}
use Rattle.ahci_port.specs.PortView.{pio_place, put_at, register_place}
use Rattle.ahci_port.specs.Registers.{after_write, read_data}

-- the device lets the command through: the log during an error condition, and the others while there is none and nothing is
-- outstanding
abbrev pub Passes : Plain → DiskState → Type 0
Passes ReadLog disk = is_stopped disk ≡ true
Passes plain disk = (disk.error ≡ None) × (is_busy disk ≡ false)

-- the registers once the device has answered: the end of a flush is a D2H Register FIS with an interrupt, a page comes by PIO
abbrev pub told : Plain → PortState → PortState
told Flush s = after_register s 0x40 0 true 0
told page s = read_data s

-- the same with the write of PxCI before it
abbrev pub carried : Plain → PortState → PortState
carried plain s = told plain (after_write s 0x138 1)

-- the received FIS area with the device's FIS
abbrev pub area_after : Plain → List ℕ → List ℕ
area_after Flush area = put_at register_place flushed_bytes area
area_after page area = put_at pio_place pio_bytes area

-- the disk afterwards: to read the log ends the error
abbrev pub disk_after : Plain → DiskState → DiskState
disk_after ReadLog disk = record disk { error = None }
disk_after plain disk = disk

-- the page that was read, where the command reads one
abbrev pub HasRead : Plain → DiskState → List ℕ → Type 0
HasRead Identify disk page = page ≡ identify_page (disk_sectors disk) disk.depth
HasRead ReadLog disk page = IsSomeAnd disk.error (λ e. page ≡ log_page e)
HasRead Flush disk page = Unit {0}
