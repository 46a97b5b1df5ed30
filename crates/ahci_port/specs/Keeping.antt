-- What a port keeps: its slots, disk, registers and journal in step.
use Rattle.std.specs.Prelude.{◌≡◌, ◌≢◌, ℕ, ◌*◌, ◌/◌, ◌≤◌, Bool, List, [], length, Option, None, Some, slice_index_or}
use Rattle.ahci_regs.specs.PortState.{PortState}
use Rattle.ahci_table.specs.Command.{op}
use Rattle.ahci_table.specs.Fit.{IsFit}
use Rattle.ncq_journal.specs.declared.phase.Phase.TheVariants.{Free}
use Rattle.ncq_journal.specs.Answer.{answer}
use Rattle.ncq_core.specs.DiskState.{DiskState, command_of, most_depth, most_sectors}
use Rattle.ncq_core.specs.Serving.{HasRoom}
use Rattle.ncq_journal.specs.Entry.{Entry}
use Rattle.ncq_journal.specs.Halted.{halted}
use Rattle.ncq_journal.specs.Image.{sector_at, is_write}
use Rattle.ncq_journal.specs.Lawful.{IsLawful}
use Rattle.ncq_journal.specs.Owed.{owed}
use Rattle.ncq_journal.specs.Phase.{phase}
use Rattle.ncq_journal.specs.Request.{request}
use Rattle.ncq_journal.specs.Sector.{sector}
use Rattle.ncq_journal.specs.Work.{Work, lba_of, sectors_of}
use Rattle.ahci_port.specs.Slots.{SlotState, answer_in, outstanding_in}
use Rattle.ahci_port.specs.Standing.{standing}
use Rattle.ahci_port.specs.Tracking.{Tracks}

-- the slot has the command's direction, LBA and count
abbrev pub IsOf : SlotState → Work → Type 0
IsOf slot work = (slot.is_write ≡ is_write work) × (slot.lba ≡ lba_of work) × (slot.sectors ≡ sectors_of work)

-- the slot holds the tag's request: what it stores is what the journal gives
pub record Holds (starting : List ℕ) (past : List Entry) (tag : ℕ) (slot : SlotState) : Type 0 where
  pub phase_is : phase past tag ≡ slot.phase
  pub taken : slot.phase ≢ Free
  pub request_is : request past tag ≡ Some (record { number = slot.place; work = op slot.window })
  pub is_of : IsOf slot (op slot.window)
  pub fit : IsFit slot.window
  pub tag_is : slot.window.tag ≡ tag
  pub answer_is : answer starting past slot.place ≡ answer_in slot

-- what a slot says of its tag
abbrev pub HasSlot : List ℕ → List Entry → ℕ → Option SlotState → Type 0
HasSlot starting past tag None = phase past tag ≡ Free
HasSlot starting past tag (Some slot) = Holds starting past tag slot

-- the header of an owned slot's window is in the command list
abbrev pub HasHeader : List (List ℕ) → ℕ → Option SlotState → Type 0
HasHeader headers tag None = Unit {0}
HasHeader headers tag (Some slot) = slice_index_or headers tag [] ≡ slot.window.header

-- the sectors that an owned slot's write needs are reserved, on a disk of so many
abbrev pub HasSectors : ℕ → List Bool → Option SlotState → Type 0
HasSectors size reserved None = Unit {0}
HasSectors size reserved (Some slot) = HasRoom size reserved slot.is_write slot.lba slot.sectors

-- the slot of a tag
abbrev pub slot_at : List (Option SlotState) → ℕ → Option SlotState
slot_at slots tag = slice_index_or slots tag None

-- the sizes of a port's parts: the starting image and the disk's, tags, commands, slots and headers
pub record IsShaped (size image depth commands slots headers : ℕ) : Type 0 where
  pub whole : size ≡ 512 * (size / 512)
  pub few : size / 512 ≤ most_sectors
  pub some_slot : 1 ≤ depth
  pub shallow : depth ≤ most_depth
  pub same_size : image ≡ size
  pub command_count : commands ≡ 32
  pub slot_count : slots ≡ depth
  pub header_count : headers ≡ 32

pub record Keeps (starting : List ℕ) (disk : DiskState) (registers : PortState) (slots : List (Option SlotState)) (headers : List (List ℕ)) (past : List Entry) (free : ℕ) : Type 0 where
  pub shape : IsShaped (length starting) (length disk.image) disk.depth (length disk.commands) (length slots) (length headers)
  pub lawful : IsLawful (length starting / 512) disk.depth past
  pub tracks : Tracks disk.depth past registers
  pub sectors : (s : ℕ) → sector_at disk.image s ≡ sector starting past s
  pub commands : (tag : ℕ) → command_of disk tag ≡ outstanding_in (halted past) (slot_at slots tag)
  pub error_is : disk.error ≡ standing past
  pub each : (tag : ℕ) → HasSlot starting past tag (slot_at slots tag)
  pub listed : (tag : ℕ) → HasHeader headers tag (slot_at slots tag)
  pub reserved : (tag : ℕ) → HasSectors (length starting / 512) disk.reserved (slot_at slots tag)
  pub room : owed past ≤ free
