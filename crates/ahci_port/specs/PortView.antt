-- What callers see of a port.
use Rattle.std.specs.Prelude.{ℕ, ◌+◌, ◌/◌, Bool, true, false, if◌then◌else◌, List, [], length, replicate, Option, None, slice_index_or}
use Rattle.std.specs.List.{replace_range}
use Rattle.std.specs.Option.{option_map}
use Rattle.ahci_regs.specs.PortState.{PortState}
use Rattle.ahci_table.specs.Window.{WindowState}
use Rattle.ncq_core.specs.DiskState.{DiskError}
use Rattle.ncq_journal.specs.declared.phase.Phase.{Phase}
use Rattle.ncq_journal.specs.declared.phase.Phase.TheVariants.{Free}
use Rattle.ncq_journal.specs.Entry.{Entry}
use Rattle.ncq_journal.specs.History.{History}
use Rattle.ncq_journal.specs.Numbering.{number_of}
use Rattle.ncq_journal.specs.Phase.{phase}
use Rattle.ncq_journal.specs.Request.{request}
use Rattle.word_bits.specs.Places.{no_places}
use Rattle.ahci_port.specs.Registers.{started}
use Rattle.ahci_port.specs.Unqueued.{nothing_sent}
use Rattle.ahci_port.specs.declared.sent.Sent.{Sent}

pub record PortView : Type 0 where
  -- the bytes of the disk's sectors when the journal began, and as they are now
  pub starting : List ℕ
  pub image : List ℕ
  -- a write may need more memory for its sectors
  pub grows : Bool
  -- how many slots the port has
  pub depth : ℕ
  -- what the port has done since then, the newest entry first, and the number of the oldest one
  pub past : List Entry
  pub first : ℕ
  -- how many more entries the journal takes with no more memory, and for how many in all memory is held
  pub room : ℕ
  pub held : ℕ
  pub registers : PortState
  -- what slot 0 sent last that was not queued
  pub sent : Sent
  -- the 256 bytes of the received FIS area (AHCI 1.3.1, section 4.2.1)
  pub area : List ℕ
  -- by tag, the window of each slot that is owned
  pub windows : List (Option WindowState)
  -- the tags that are outstanding in the device, and its error condition
  pub device : List Bool
  pub error : Option DiskError

-- the port's journal
abbrev pub journal_in : PortView → History
journal_in port = record { first = port.first; past = port.past; room = port.room; held = port.held }

-- how many sectors of 512 bytes the disk has
abbrev pub sectors_in : PortView → ℕ
sectors_in port = length port.starting / 512

-- the window of a tag's slot
abbrev pub window_at : PortView → ℕ → Option WindowState
window_at port tag = slice_index_or port.windows tag None

-- the received FIS area with a FIS at a place
abbrev pub put_at : ℕ → List ℕ → List ℕ → List ℕ
put_at place fis area = replace_range area place (place + length fis) fis

-- the places of the FISes in it
abbrev pub setup_place : ℕ
setup_place = 0x00

abbrev pub pio_place : ℕ
pio_place = 0x20

abbrev pub register_place : ℕ
register_place = 0x40

abbrev pub bits_place : ℕ
bits_place = 0x58

abbrev pub is_free : Phase → Bool
is_free Free = true
is_free p = false

-- the number of the entry that comes next
abbrev pub next_number : PortView → ℕ
next_number port = number_of port.first (length port.past)

-- a port over a store with this image that has done nothing yet, and numbers its entries from this one
abbrev pub port_over : (grows : Bool) → ℕ → List ℕ → ℕ → PortView
port_over grows first image depth = record {
  starting = image;
  image = image;
  grows = grows;
  depth = depth;
  past = [];
  first = first;
  room = 0;
  held = 0;
  registers = started depth;
  sent = nothing_sent;
  area = replicate 256 0;
  windows = replicate depth None;
  device = no_places;
  error = None;
}

-- the same over an image that is all in memory
abbrev pub port_from : ℕ → List ℕ → ℕ → PortView
port_from = port_over false

-- a new port over such an image
abbrev pub new_port : List ℕ → ℕ → PortView
new_port image depth = port_from 0 image depth

-- the number of the request that owns a tag's slot
abbrev pub owner_of : PortView → ℕ → Option ℕ
owner_of port tag =
    if is_free (phase port.past tag) then None else option_map (λ r. number_of port.first r.number) (request port.past tag)
