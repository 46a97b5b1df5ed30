-- What becomes of a controller when another disk is plugged in where one was pulled out (AHCI 1.3.1, chapter 7 "Hot Plug Operation"), and why none is.
use Rattle.std.specs.Prelude.{ℕ, Bool, List, Option, Some, if◌then◌else◌}
use Rattle.std.specs.Option.{option_map}
use Rattle.hba_command.specs.Device.{named, new_device, with_cache, with_trim_zeros}
use Rattle.hba_command.specs.declared.device.Device.{Device}
use Rattle.hba_command.specs.declared.identity.Identity.{Identity}
use Rattle.ahci_port.specs.Faults.{over_refusal}
use Rattle.ahci_port.specs.PortView.{next_number, port_over}
use Rattle.ahci_hba.specs.Events.{device_plugged}
use Rattle.ahci_hba.specs.HbaView.{HbaView}
use Rattle.ahci_hba.specs.States.{hba_over}
use Rattle.ahci_hba.specs.declared.fault.PlugFault.{PlugFault}
use Rattle.ahci_hba.specs.declared.fault.PlugFault.TheVariants.{Occupied, Disk}

-- the disk that comes is as new, and has another name; whether it has a volatile write cache, and whether its trimmed sectors read as zeros, is as before (profile)
abbrev pub other_device : HbaView → Identity → Device
other_device h identity = named identity (with_trim_zeros h.device.trim_zeros (with_cache h.device.has_cache new_device))

-- another disk is plugged in: the controller is as one that is made over it, but that the registers are those of the controller that is there, and that
-- the journal goes on by number. Then the disk makes itself known, as the one that was pulled out would
abbrev pub other_plugged : HbaView → (grows : Bool) → (image : List ℕ) → Identity → (depth : ℕ) → HbaView
other_plugged h grows image identity depth =
    device_plugged (record (hba_over grows image depth h.registers.port.capabilities) {
      registers = h.registers;
      port = port_over grows (next_number h.port) image 32;
      device = other_device h identity;
    })

-- why no other disk of so many sectors is plugged in, memory aside: one is in, or no port goes on over it
abbrev pub plug_refusal : HbaView → (sectors depth : ℕ) → Option PlugFault
plug_refusal h sectors depth = if h.registers.port.present then Some Occupied else option_map Disk (over_refusal sectors depth (next_number h.port))
