-- The first state of a controller, and what every state keeps.
use Rattle.std.specs.Prelude.{◌≡◌, ◌≤◌, ℕ, Bool, false, List, [], Option, None, length, replicate}
use Rattle.hba_command.specs.Device.{new_device}
use Rattle.hba_command.specs.declared.power.Power.TheVariants.{Active}
use Rattle.hba_regs.specs.CapFields.{CapFields, usual}
use Rattle.hba_regs.specs.HbaState.{power_on}
use Rattle.ahci_port.specs.PortView.{PortView, port_over}
use Rattle.ahci_table.specs.Fit.{IsFit}
use Rattle.hba_memory.specs.DmaWrites.{is_none, remaining}
use Rattle.hba_memory.specs.Reading.{is_over}
use Rattle.ahci_hba.specs.HbaView.{CommandView, HbaView, DmaView, Idle, Fetching, Served, Pio, Block, Writing}

-- a controller after power-on that can do this, in front of a disk over a store with this image
abbrev pub hba_over : (grows : Bool) → List ℕ → ℕ → CapFields → HbaView
hba_over grows image depth c = record {
  registers = power_on c;
  port = port_over grows 0 image 32;
  depth = depth;
  power = Active;
  device = new_device;
  marks = [];
  logs = [];
  slots = replicate 32 None;
  dma = Idle;
}

-- the same of a disk with this image in memory
abbrev pub hba_with : List ℕ → ℕ → CapFields → HbaView
hba_with = hba_over false

-- the same with the usual capabilities
abbrev pub new_hba : List ℕ → ℕ → HbaView
new_hba image depth = hba_with image depth usual

-- of a command that is read more comes; the window of a command that the port has done is fit; of an answer or a
-- block something is still to be written
abbrev pub IsSoundDma : DmaView → Type 0
IsSoundDma Idle = Unit {0}
IsSoundDma (Fetching slot r) = is_over r ≡ false
IsSoundDma (Served slot t window list) = IsFit window
IsSoundDma (Pio t) = Unit {0}
IsSoundDma (Block p t) = is_none (remaining p) ≡ false
IsSoundDma (Writing p e) = is_none (remaining p) ≡ false

-- what every state keeps: 32 slots, whatever the depth
pub record IsSound (port : PortView) (depth : ℕ) (slots : List (Option CommandView)) (dma : DmaView) : Type 0 where
  pub tags : port.depth ≡ 32
  pub whole : length slots ≡ 32
  pub some : 1 ≤ depth
  pub most : depth ≤ 32
  pub moving : IsSoundDma dma
