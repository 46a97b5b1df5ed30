-- The queueing disk as contracts see it (ACS-3, "Native Command Queuing feature set"): an image, the command of each tag
-- or none, and the error condition or none.
use Rattle.std.specs.Prelude.{◌≡◌, ℕ, ◌+◌, ◌*◌, ◌/◌, ◌%◌, ◌^◌, ◌<◌, ◌≤◌, Bool, true, false, ◌||◌, nat_eq, nat_lt, if◌then◌else◌, List, [], length, map, replicate, Option, None, Some, is_some, slice_index_or}
use Rattle.std.specs.List.{range_with_len}
use Rattle.sata_fis.specs.Fields.{QueuedFields}
use Rattle.ncq_core.specs.declared.disk.error.DiskError.TheInside.{Inside}
use Rattle.ncq_core.specs.declared.disk_fault.DiskFault.{DiskFault}
use Rattle.ncq_core.specs.declared.disk_fault.DiskFault.TheVariants.{BadSize, BadDepth}

-- the error that stopped the disk: the tag of the command that failed, the error byte and the LBA of the failing sector
abbrev pub DiskError : Type 0
DiskError = Inside

-- the bytes of all sectors as they are now, those that the store kept (none if it keeps none), whether a write may need more memory,
-- whether each sector can be written with none, how many tags there are, the command outstanding at each of 32 tags, and the error
pub record DiskState : Type 0 where
  pub image : List ℕ
  pub starting : List ℕ
  pub grows : Bool
  pub reserved : List Bool
  pub depth : ℕ
  pub commands : List (Option QueuedFields)
  pub error : Option DiskError

-- whether each of so many sectors is reserved
unfoldable pub reserved_of : (ℕ → Bool) → ℕ → List Bool
reserved_of is_reserved sectors = map is_reserved (range_with_len 0 sectors)

-- whether a sector is, of these
abbrev pub is_reserved_in : List Bool → ℕ → Bool
is_reserved_in reserved lba = slice_index_or reserved lba false

-- how many sectors of 512 bytes the disk has
abbrev pub disk_sectors : DiskState → ℕ
disk_sectors disk = length disk.image / 512

-- the command outstanding at a tag
abbrev pub command_of : DiskState → ℕ → Option QueuedFields
command_of disk tag = slice_index_or disk.commands tag None

-- the tags at which a command is outstanding, as 32 truth values
abbrev pub outstanding : DiskState → List Bool
outstanding disk = map is_some disk.commands

-- there is an error condition
abbrev pub is_stopped : DiskState → Bool
is_stopped disk = is_some disk.error

-- no command at any of the 32 tags
unfoldable pub no_commands : List (Option QueuedFields)
no_commands = replicate 32 None

-- a disk on which nothing has happened yet, over a store with this image, what it kept, whether it grows and what it has reserved
abbrev pub disk_over : List ℕ → List ℕ → Bool → List Bool → ℕ → DiskState
disk_over image starting grows reserved depth =
    record { image = image; starting = starting; grows = grows; reserved = reserved; depth = depth; commands = no_commands; error = None }

-- a disk on which nothing has happened yet, over an image in memory, of which none is kept
abbrev pub new_disk : List ℕ → ℕ → DiskState
new_disk image depth = disk_over image [] false (reserved_of (λ lba. true) (length image / 512)) depth

-- the most sectors of a disk: their number is 32 bits wide
abbrev pub most_sectors : ℕ
most_sectors = 4294967295

-- the most sectors of a disk whose image is in memory as a whole, and the most tags (ACS-3, READ FPDMA QUEUED: a tag has five bits)
abbrev pub most_disk_sectors : ℕ
most_disk_sectors = 131072

abbrev pub most_depth : ℕ
most_depth = 32

-- the depth is not 1 to 32
abbrev pub is_bad_depth : ℕ → Bool
is_bad_depth depth = nat_eq depth 0 || nat_lt most_depth depth

-- why no disk is made of an image of so many bytes: it has no sectors, too many or not whole ones, or the depth is not 1 to 32
abbrev pub size_fault : ℕ → ℕ → Option DiskFault
size_fault bytes depth =
    if nat_eq bytes 0 || nat_lt 0 (bytes % 512) || nat_lt most_disk_sectors (bytes / 512) then Some BadSize
    else if is_bad_depth depth then Some BadDepth
    else None

abbrev pub new_fault : List ℕ → ℕ → Option DiskFault
new_fault image depth = size_fault (length image) depth

-- why no disk is made over a store of so many sectors: it has none or too many, or the depth is not 1 to 32
abbrev pub over_fault : ℕ → ℕ → Option DiskFault
over_fault sectors depth =
    if nat_eq sectors 0 || nat_lt most_sectors sectors then Some BadSize
    else if is_bad_depth depth then Some BadDepth
    else None

-- a command outstanding at a tag: its own, below the depth, and of at least one sector, all of them on the disk
pub record IsOutstanding (disk : DiskState) (tag : ℕ) (q : QueuedFields) : Type 0 where
  pub own : q.tag ≡ tag
  pub below : tag < disk.depth
  pub some : 1 ≤ q.sectors
  pub fits : q.lba + q.sectors ≤ disk_sectors disk

-- an error that the disk can have, which has ended every command
pub record IsStanding (disk : DiskState) (e : DiskError) : Type 0 where
  pub tag : e.tag < 32
  pub code : e.error < 256
  pub lba : e.lba < 2 ^ 48
  pub none : disk.commands ≡ no_commands

-- what holds of every disk
pub record IsDisk (disk : DiskState) : Type 0 where
  pub whole : length disk.image ≡ 512 * disk_sectors disk
  pub least : 1 ≤ disk_sectors disk
  pub most : disk_sectors disk ≤ most_sectors
  pub deep : 1 ≤ disk.depth
  pub shallow : disk.depth ≤ most_depth
  pub count : length disk.commands ≡ 32
  pub each : (tag : ℕ) (q : QueuedFields) → command_of disk tag ≡ Some q → IsOutstanding disk tag q
  pub stands : (e : DiskError) → disk.error ≡ Some e → IsStanding disk e
