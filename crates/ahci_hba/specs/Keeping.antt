-- What the disk of a controller keeps between commands (ACS-3, "SET FEATURES", "SMART" and "IDENTIFY DEVICE").
use Rattle.std.specs.Prelude.{ℕ, Bool}
use Rattle.hba_command.specs.Device.{after_ending, device_after_reply, named, reset_device, with_cache, with_trim_zeros}
use Rattle.hba_command.specs.declared.device.Device.{Device}
use Rattle.hba_command.specs.declared.identity.Identity.{Identity}
use Rattle.hba_command.specs.declared.reply.Reply.{Reply}
use Rattle.hba_regs.specs.declared.consequence.Consequence.{Consequence}
use Rattle.hba_regs.specs.declared.consequence.Consequence.TheVariants.{Nothing, Stopped, LinkReset, Reset}
use Rattle.ahci_hba.specs.HbaView.{HbaView}
use Rattle.ahci_hba.specs.Queueing.{comes_under_queued}

abbrev pub keeping : HbaView → Device → HbaView
keeping h d = record h { device = d }

-- a command that moves nothing is answered
abbrev pub changed_by : Reply → HbaView → HbaView
changed_by r h = keeping h (device_after_reply r h.device)

-- a driver's write: a link that goes down and an HBA reset are a hardware reset of the device, ST that is cleared is none
abbrev pub device_after : Consequence → Device → Device
device_after Nothing d = d
device_after Stopped d = d
device_after LinkReset d = reset_device d
device_after Reset d = reset_device d

-- the disk has a volatile write cache or not, and another name
abbrev pub cached : Bool → HbaView → HbaView
cached has h = keeping h (with_cache has h.device)

-- its trimmed sectors read as zeros, or a trim is advice
abbrev pub trim_turned : Bool → HbaView → HbaView
trim_turned trim_zeros h = keeping h (with_trim_zeros trim_zeros h.device)

abbrev pub renamed : Identity → HbaView → HbaView
renamed identity h = keeping h (named identity h.device)

-- the disk behind the command of a slot, which has ended with this status and error
abbrev pub device_ended : HbaView → (slot status error : ℕ) → Device
device_ended h slot status error = after_ending (comes_under_queued h slot) status error h.device
