-- How the disk ends a command: by moving its data between the image and the host's text, or by an error
-- (Serial ATA, "DMA Setup FIS" and "Data FIS"; ACS-3, READ FPDMA QUEUED and WRITE FPDMA QUEUED).
use Rattle.std.specs.Prelude.{◌≡◌, ℕ, ◌+◌, ◌*◌, ◌≤◌, Bool, true, false, ◌&&◌, nat_le, nat_lt, if◌then◌else◌, List, ◌++◌, length, take, drop, Option, None, Some, Result, Ok, Err, is_some, slice_set}
use Rattle.sata_fis.specs.Fields.{QueuedFields}
use Rattle.ncq_core.specs.declared.serve_fault.ServeFault.{ServeFault}
use Rattle.ncq_core.specs.declared.serve_fault.ServeFault.TheVariants.{Stopped, NotAccepted, OutsideCommand}
use Rattle.ncq_core.specs.DiskState.{DiskState, command_of, disk_sectors, is_reserved_in, is_stopped}
use Rattle.ncq_journal.specs.Image.{IsWrittenOver}
use Rattle.sector_store.specs.Reserved.{AreReserved}

-- why a tag's command is not served: there is an error condition, or no command is outstanding at the tag
abbrev pub serve_fault : DiskState → ℕ → Option ServeFault
serve_fault disk tag = if is_stopped disk then Some Stopped else (if is_some (command_of disk tag) then None else Some NotAccepted)

-- the sector is one that the command reads or writes
abbrev pub covers_sector : QueuedFields → ℕ → Bool
covers_sector q lba = nat_le q.lba lba && nat_lt lba (q.lba + q.sectors)

-- the sector is one of the command at a tag
abbrev pub is_at_command : Option QueuedFields → ℕ → Bool
is_at_command None lba = false
is_at_command (Some q) lba = covers_sector q lba

-- why a tag's command does not fail at a sector: as for serving, or the sector is not one of the command's
abbrev pub fail_fault : DiskState → ℕ → ℕ → Option ServeFault
fail_fault disk tag lba =
    if is_stopped disk then Some Stopped
    else (if is_some (command_of disk tag) then (if is_at_command (command_of disk tag) lba then None else Some OutsideCommand) else Some NotAccepted)

-- a call answers its first fault, and these bytes where there is none
abbrev pub answered : Option ServeFault → List ℕ → Result (List ℕ) ServeFault
answered None bytes = Ok bytes
answered (Some fault) bytes = Err fault

-- how many bytes a command moves
abbrev pub byte_count : QueuedFields → ℕ
byte_count q = 512 * q.sectors

-- the bytes of a command's sectors on an image
abbrev pub bytes_at : QueuedFields → List ℕ → List ℕ
bytes_at q image = take (byte_count q) (drop (512 * q.lba) image)

-- a read puts its sectors at the beginning of the host's text; no other byte changes
pub record IsRead (q : QueuedFields) (image image' text text' : List ℕ) : Type 0 where
  pub image_same : image' ≡ image
  pub text_read : text' ≡ bytes_at q image ++ drop (byte_count q) text

-- a write makes its sectors the first bytes of the host's text; no other sector changes
pub record IsWritten (q : QueuedFields) (image image' text text' : List ℕ) : Type 0 where
  pub text_same : text' ≡ text
  pub size_same : length image' ≡ length image
  pub sectors_written : IsWrittenOver q.lba (take (byte_count q) text) image image'

-- the data of a read, or of a write
abbrev pub MovesFor : Bool → QueuedFields → (image image' text text' : List ℕ) → Type 0
MovesFor false q image image' text text' = IsRead q image image' text text'
MovesFor true q image image' text text' = IsWritten q image image' text text'

-- the command's data have moved
abbrev pub HasMoved : QueuedFields → (image image' text text' : List ℕ) → Type 0
HasMoved q image image' text text' = MovesFor q.write q image image' text text'

-- the memory that a command needs is there: the sectors of a write that is all on a disk of so many are reserved
abbrev pub HasRoom : ℕ → List Bool → (write : Bool) → (lba sectors : ℕ) → Type 0
HasRoom size reserved false lba sectors = Unit {0}
HasRoom size reserved true lba sectors = lba + sectors ≤ size → AreReserved (is_reserved_in reserved) lba sectors

-- the same, where a write may need more at all
abbrev pub HasMemory : (grows : Bool) → ℕ → List Bool → QueuedFields → Type 0
HasMemory false size reserved q = Unit {0}
HasMemory true size reserved q = HasRoom size reserved q.write q.lba q.sectors

-- the disk has the memory that this command needs
abbrev pub HasCommandRoom : DiskState → QueuedFields → Type 0
HasCommandRoom disk q = HasRoom (disk_sectors disk) disk.reserved q.write q.lba q.sectors

-- the disk with this image, and these sectors reserved, once a tag's command is completed
abbrev pub served : DiskState → ℕ → List ℕ → List Bool → DiskState
served disk tag image reserved = record disk { image = image; reserved = reserved; commands = slice_set disk.commands tag None }
