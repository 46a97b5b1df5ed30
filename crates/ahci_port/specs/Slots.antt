-- A tag's request as its slot holds it, and what callers see of a port's fields.
use Rattle.std.specs.Prelude.{ℕ, ◌*◌, Bool, not, ◌&&◌, if◌then◌else◌, List, [], map, Option, None, Some}
use Rattle.std.specs.Option.{option_map}
use Rattle.ahci_table.specs.Command.{queued_of}
use Rattle.ahci_table.specs.Text.{text}
use Rattle.ahci_table.specs.Window.{WindowState}
use Rattle.ncq_journal.specs.declared.outcome.Outcome.{Outcome}
use Rattle.ncq_journal.specs.declared.outcome.Outcome.TheVariants as outcome
use Rattle.ncq_journal.specs.declared.phase.Phase.{Phase}
use Rattle.ncq_journal.specs.declared.phase.Phase.TheVariants.{Free}
use Rattle.ncq_journal.specs.Answer.{Answer}
use Rattle.ncq_journal.specs.Tags.{in_device}
use Rattle.ahci_regs.specs.PortState.{PortState}
use Rattle.ncq_core.specs.DiskState.{DiskState, outstanding}
use Rattle.ncq_journal.specs.History.{History}
use Rattle.ahci_port.specs.PortView.{PortView}
use Rattle.sata_fis.specs.Fields.{QueuedFields}
use Rattle.ahci_port.specs.declared.ended.Ended.{Ended}
use Rattle.ahci_port.specs.declared.sent.Sent.{Sent}

pub record SlotState : Type 0 where
  -- the place of its Issue entry, and below that of the entry that ended it
  pub place : ℕ
  pub is_write : Bool
  pub lba : ℕ
  pub sectors : ℕ
  pub phase : Phase
  pub ended : Option Ended
  pub window : WindowState

-- a finished read's bytes are its window's text
abbrev pub bytes_in : Outcome → WindowState → List ℕ
bytes_in outcome.Read w = text w
bytes_in o w = []

-- the answer that the slot holds
abbrev pub answer_in : SlotState → Option Answer
answer_in slot = option_map (λ e. record { entry = e.entry; outcome = e.outcome; bytes = bytes_in e.outcome slot.window }) slot.ended

-- the command of the slot that is outstanding in the device, which an error empties
abbrev pub outstanding_in : Bool → Option SlotState → Option QueuedFields
outstanding_in stopped None = None
outstanding_in stopped (Some slot) = if in_device slot.phase && not stopped then Some (queued_of slot.window) else None

-- the phase of the tag
abbrev pub phase_in : Option SlotState → Phase
phase_in None = Free
phase_in (Some slot) = slot.phase

-- the bytes that the slot's request reads, where it is a read
abbrev pub read_in : Option SlotState → Option ℕ
read_in None = None
read_in (Some slot) = if slot.is_write then None else Some (512 * slot.sectors)

-- the window of a slot that is owned
abbrev pub window_in : Option SlotState → Option WindowState
window_in slot = option_map (λ s. s.window) slot

-- what callers see of these fields
abbrev pub view_of : List ℕ → DiskState → PortState → Sent → List ℕ → List (Option SlotState) → History → PortView
view_of starting disk registers sent area slots journal = record {
  starting = starting;
  image = disk.image;
  grows = disk.grows;
  depth = disk.depth;
  past = journal.past;
  first = journal.first;
  room = journal.room;
  held = journal.held;
  registers = registers;
  sent = sent;
  area = area;
  windows = map window_in slots;
  device = outstanding disk;
  error = disk.error;
}
