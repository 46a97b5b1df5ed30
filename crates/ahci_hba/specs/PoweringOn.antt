-- What power-on leaves of a controller (AHCI 1.3.1, chapter 3 and section 10.4).
use Rattle.std.specs.Prelude.{Option}
use Rattle.hba_command.specs.Device.{power_cycled}
use Rattle.hba_regs.specs.HbaState.{powered_with}
use Rattle.hba_regs.specs.declared.consequence.Consequence.TheVariants.{Reset}
use Rattle.ncq_journal.specs.History.{History}
use Rattle.ahci_hba.specs.Dropping.{handed_out, is_reset, port_after}
use Rattle.ahci_hba.specs.HbaView.{HbaView}
use Rattle.ahci_hba.specs.States.{hba_with}

-- a new controller that can do the same, over the disk as it is, or as unplugged as it was, which keeps what a reset leaves; a port with requests is reset, as by a reset of
-- the HBA
abbrev pub powered_on : HbaView → HbaView
powered_on h =
    record (hba_with h.port.image h.depth h.registers.port.capabilities) {
      registers = powered_with h.registers.port.present h.registers.port.capabilities;
      port = port_after (is_reset Reset h) h.port;
      device = power_cycled h.device;
      marks = h.marks;
      logs = h.logs;
    }

-- the journal that the port hands out if it is reset
abbrev pub power_on_journal : HbaView → Option History
power_on_journal h = handed_out (is_reset Reset h) h.port
