-- The service of one command of a list: disk, slot, received FIS area and journal move; the registers wait for the one Set
-- Device Bits FIS that ends the list.
use Rattle.std.specs.Prelude.{◌≡◌, ℕ, ◌+◌, List, ◌∷◌, length}
use Rattle.ahci_table.specs.Command.{queued_of}
use Rattle.ahci_table.specs.Fit.{IsFit}
use Rattle.ahci_table.specs.Text.{text}
use Rattle.ncq_core.specs.DiskFis.{setup_bytes}
use Rattle.ncq_core.specs.DiskState.{DiskState, is_reserved_in}
use Rattle.ncq_core.specs.Serving.{HasMoved, served}
use Rattle.ncq_journal.specs.Entry.{Complete}
use Rattle.sector_store.specs.Reserved.{StayReserved}
use Rattle.ncq_journal.specs.History.{History}
use Rattle.ahci_port.specs.Memory.{IsKept}
use Rattle.ahci_port.specs.Moves.{served_slot}
use Rattle.ahci_port.specs.PortView.{put_at, setup_place}
use Rattle.ahci_port.specs.Slots.{SlotState}

pub record CompletesOne (tag : ℕ) (disk disk_new : DiskState) (slot slot_new : SlotState) (area area_new : List ℕ) (journal journal_new : History) : Type 0 where
  pub disk_is : disk_new ≡ served disk tag disk_new.image disk_new.reserved
  pub stay : StayReserved (is_reserved_in disk.reserved) (is_reserved_in disk_new.reserved)
  pub data_moved : HasMoved (queued_of slot.window) disk.image disk_new.image (text slot.window) (text slot_new.window)
  pub fit : IsFit slot_new.window
  pub kept : IsKept slot.window slot_new.window
  pub slot_is : slot_new ≡ served_slot slot (length journal.past) slot_new.window
  pub area_is : area_new ≡ put_at setup_place (setup_bytes (queued_of slot.window)) area
  pub past_is : journal_new.past ≡ Complete tag ∷ journal.past
  pub first_same : journal_new.first ≡ journal.first
  pub room_is : journal_new.room + 1 ≡ journal.room
  pub held_same : journal_new.held ≡ journal.held
