-- How DATA SET MANAGEMENT with TRIM makes sectors zeros (ACS-3, "DATA SET MANAGEMENT", "LBA Range Entry"; IDENTIFY DEVICE, word 69, DRAT and RZAT): a step for each
-- LBA Range Entry that names sectors, in the order of the data, and then one that answers.
use Rattle.std.specs.Prelude.{◌≡◌, ◌⊎◌, ℕ, Bool, false, true, not, ◌&&◌, is_some, if◌then◌else◌, List, Option, None, Some, slice_set}
use Rattle.hba_command.specs.Store.{leaves_disk}
use Rattle.hba_command.specs.TrimRange.{first_passed, first_range}
use Rattle.hba_command.specs.Uncorrectable.{without}
use Rattle.hba_command.specs.declared.entry.PrdEntry.{PrdEntry}
use Rattle.hba_command.specs.declared.protocol.Protocol.{Protocol}
use Rattle.hba_command.specs.declared.store.Store.{Store}
use Rattle.hba_command.specs.declared.store.Store.TheVariants.{Buffer, Log, Trim}
use Rattle.hba_command.specs.declared.trim_range.TrimRange.{TrimRange}
use Rattle.ahci_port.specs.Faults.{is_vacant, plain_refusal}
use Rattle.ahci_port.specs.PortView.{PortView, sectors_in}
use Rattle.ahci_port.specs.Steps.{IsZeroed, LacksRoom}
use Rattle.ahci_hba.specs.HbaView.{CommandView, Fetched, Sent, HbaView}
use Rattle.ahci_hba.specs.Marking.{marking}
use Rattle.ahci_hba.specs.Powering.{awake}
use Rattle.ahci_hba.specs.Queueing.{command_at}
use Rattle.ahci_hba.specs.Storing.{content_in, stored, writes_log}

-- a command makes sectors zeros, on a disk whose trimmed sectors read so; to another one it is advice
abbrev pub makes_zeros : HbaView → Store → Bool
makes_zeros h (Trim blocks) = h.device.trim_zeros
makes_zeros h Buffer = false
makes_zeros h (Log pages) = false

-- the port makes sectors of the disk zeros: nothing has failed, and it has no request
abbrev pub can_zero : PortView → Bool
can_zero port = not (is_some (plain_refusal port)) && is_vacant port

-- the sectors that the next step makes zeros: of data none of whose ranges leaves the disk, those of the first entry that is still to be done
abbrev pub zeroed_next : HbaView → Store → List ℕ → Option TrimRange
zeroed_next h s bytes = if makes_zeros h s && not (leaves_disk (sectors_in h.port) bytes) then first_range bytes else None

-- that entry is done then
abbrev pub passing : Option CommandView → Option CommandView
passing (Some (Fetched t list bytes)) = Some (Fetched t list (first_passed bytes))
passing (Some (Sent t list)) = Some (Sent t list)
passing None = None

-- the step: the port makes the sectors zeros, none of them is marked any more, and the device is Active. No FIS is sent yet
pub record Zeroes (slot : ℕ) (range : TrimRange) (old new : HbaView) : Type 0 where
  pub port : PortView
  pub zeros : IsZeroed range.lba range.sectors old.port port
  pub rest : new ≡ awake (marking (record old { port = port; slots = slice_set old.slots slot (passing (command_at old slot)) }) (without range.lba range.sectors old.marks))

-- an allocation can be refused: for the pages of a log that is written, and for sectors that become zeros, where the store grows or the journal has no room
abbrev pub StoreMayLack : HbaView → Store → Type 0
StoreMayLack h s = (writes_log h.device s ≡ true) ⊎ ((makes_zeros h s ≡ true) × (h.port.grows ≡ false → LacksRoom h.port))

-- what the device does with the data of a command
abbrev pub StoresBy : Option TrimRange → ℕ → Store → Protocol → List PrdEntry → HbaView → HbaView → Type 0
StoresBy (Some range) slot s p list old new = Zeroes slot range old new
StoresBy None slot s p list old new = new ≡ stored old slot s p list (content_in (command_at old slot))

abbrev pub Stores : ℕ → Store → Protocol → List PrdEntry → HbaView → HbaView → Type 0
Stores slot s p list old new = StoresBy (zeroed_next old s (content_in (command_at old slot))) slot s p list old new
