-- What callers see of a controller.
use Rattle.std.specs.Prelude.{ℕ, List, Option}
use Rattle.hba_command.specs.declared.device.Device.{Device}
use Rattle.hba_command.specs.declared.entry.PrdEntry.{PrdEntry}
use Rattle.hba_command.specs.declared.host_page.HostPage.{HostPage}
use Rattle.hba_command.specs.declared.power.Power.{Power}
use Rattle.hba_command.specs.declared.task.Task.{Task}
use Rattle.hba_memory.specs.DmaWrites.{DmaWritesView}
use Rattle.hba_memory.specs.Reading.{ReadingView}
use Rattle.hba_regs.specs.HbaState.{HbaState}
use Rattle.ahci_table.specs.Window.{WindowState}
use Rattle.ahci_port.specs.PortView.{PortView}
use Rattle.ahci_hba.specs.declared.command.Command.{Command}
use Rattle.ahci_hba.specs.declared.command.Command.TheVariants as command
use Rattle.ahci_hba.specs.declared.ending.Ending.{Ending}
use Rattle.ahci_hba.specs.Transfer.{TransferView}
use Rattle.ahci_hba.specs.declared.dma_state.DmaState.{DmaState}
use Rattle.ahci_hba.specs.declared.dma_state.DmaState.TheVariants as state

-- a command that was read from a slot of the command list
pub data CommandView : Type 0 where
  Fetched : Task → List PrdEntry → List ℕ → CommandView
  Sent : Task → List PrdEntry → CommandView

abbrev pub command_of : {A : _} → Command A → CommandView
command_of (command.Fetched t list bytes) = Fetched t list.items bytes.items
command_of (command.Sent t list) = Sent t list.items

-- what the controller does with the driver's memory
pub data DmaView : Type 0 where
  Idle : DmaView
  Fetching : (slot : ℕ) → ReadingView → DmaView
  Served : (slot : ℕ) → Task → WindowState → List PrdEntry → DmaView
  Pio : TransferView → DmaView
  Block : DmaWritesView → TransferView → DmaView
  Writing : DmaWritesView → Ending → DmaView

abbrev pub dma_of : {A : _} → DmaState A → DmaView
dma_of state.Idle = Idle
dma_of (state.Fetching slot fetch) = Fetching slot fetch
dma_of (state.Served slot t window list) = Served slot t window list.items
dma_of (state.Pio transfer) = Pio transfer
dma_of (state.Block writes transfer) = Block writes transfer
dma_of (state.Writing writes ending) = Writing writes ending

pub record HbaView : Type 0 where
  -- the registers, as a driver reads them
  pub registers : HbaState
  -- the port behind them, with its disk and journal
  pub port : PortView
  -- how many queued commands a driver may have outstanding by IDENTIFY DEVICE
  pub depth : ℕ
  -- the disk's power mode
  pub power : Power
  -- what the disk keeps between commands
  pub device : Device
  -- the sectors that are marked uncorrectable: each stays so over every reset and power cycle, until it is written
  pub marks : List ℕ
  -- the pages of the host's logs that were written: each stays so over every reset and power cycle, until it is written again
  pub logs : List HostPage
  -- by slot, the commands that were read and are not done
  pub slots : List (Option CommandView)
  -- what is read or written just now
  pub dma : DmaView
