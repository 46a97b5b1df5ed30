-- What a write of the driver drops (AHCI 1.3.1, sections 3.3.7, 10.4.2 and 10.4.3).
use Rattle.std.specs.Prelude.{Bool, false, not, ◌&&◌, ◌||◌, Option, None, Some, nat_lt, replicate, if◌then◌else◌}
use Rattle.std.specs.List.{list_any}
use Rattle.hba_memory.specs.DmaWrites.{without_fises}
use Rattle.hba_regs.specs.HbaState.{HbaState}
use Rattle.hba_regs.specs.Writing.{Written}
use Rattle.hba_regs.specs.declared.consequence.Consequence.{Consequence}
use Rattle.hba_regs.specs.declared.consequence.Consequence.TheVariants.{Nothing, Stopped, LinkReset, Reset}
use Rattle.ncq_journal.specs.Halted.{halted}
use Rattle.ncq_journal.specs.History.{History}
use Rattle.ahci_port.specs.Faults.{most_first}
use Rattle.ahci_port.specs.PortView.{PortView, journal_in, next_number, port_over}
use Rattle.ahci_hba.specs.HbaView.{HbaView, DmaView, Idle, Block, Writing}
use Rattle.ahci_hba.specs.Keeping.{device_after}
use Rattle.ahci_hba.specs.Powering.{power_after}
use Rattle.ahci_hba.specs.Queueing.{is_sent}
use Rattle.ahci_hba.specs.Moving.{answering, blocking}

-- whether the port is reset: it has requests, and after a failure only a reset of the device ends them, since the log is to be read
abbrev pub drops_requests : Consequence → HbaView → Bool
drops_requests Nothing h = false
drops_requests Stopped h = not (halted h.port.past) && list_any is_sent h.slots
drops_requests LinkReset h = halted h.port.past || list_any is_sent h.slots
drops_requests Reset h = halted h.port.past || list_any is_sent h.slots

-- a port whose numbers are used up is not reset
abbrev pub is_spent : PortView → Bool
is_spent port = nat_lt most_first (next_number port)

abbrev pub is_reset : Consequence → HbaView → Bool
is_reset consequence h = drops_requests consequence h && not (is_spent h.port)

-- the port once it is reset: as a new one over the image as it is, by the next number
abbrev pub port_after : Bool → PortView → PortView
port_after reset port = if reset then port_over port.grows (next_number port) port.image port.depth else port

-- and the journal that it hands out
abbrev pub handed_out : Bool → PortView → Option History
handed_out reset port = if reset then Some (journal_in port) else None

-- no command is left, and nothing is read or written any more
abbrev pub emptied : HbaView → HbaView
emptied h = record h { slots = replicate 32 None; dma = Idle }

-- while FRE is 0, no FIS is written
abbrev pub without_receiving : HbaView → DmaView → HbaView
without_receiving h (Block p t) = blocking h (without_fises p) t
without_receiving h (Writing p e) = answering h (without_fises p) e
without_receiving h other = h

abbrev pub settled_work : HbaView → HbaView
settled_work h = if h.registers.port.fre then h else without_receiving h h.dma

-- the controller after a write with a consequence
abbrev pub after_write : Consequence → HbaView → HbaState → HbaView
after_write Nothing h registers = settled_work (record h { registers = registers })
after_write consequence h registers =
    emptied (record h {
      registers = registers;
      port = port_after (is_reset consequence h) h.port;
      power = power_after consequence h.power;
      device = device_after consequence h.device;
    })

-- the controller after the driver's write, and the journal that the port hands out if it is reset
abbrev pub written : HbaView → Written → HbaView
written h w = after_write w.consequence h w.state

abbrev pub journal_out : HbaView → Written → Option History
journal_out h w = handed_out (is_reset w.consequence h) h.port
