-- The disk's power mode in a controller (ACS-3, "Power Management feature set").
use Rattle.std.specs.Prelude.{if◌then◌else◌}
use Rattle.hba_command.specs.Power.{after_reply, after_reset, needs_medium}
use Rattle.hba_command.specs.declared.action.Action.{Action}
use Rattle.hba_command.specs.declared.power.Power.{Power}
use Rattle.hba_command.specs.declared.power.Power.TheVariants.{Active}
use Rattle.hba_command.specs.declared.reply.Reply.{Reply}
use Rattle.hba_regs.specs.declared.consequence.Consequence.{Consequence}
use Rattle.hba_regs.specs.declared.consequence.Consequence.TheVariants.{Nothing, Stopped, LinkReset, Reset}
use Rattle.ahci_hba.specs.HbaView.{HbaView}

abbrev pub in_mode : HbaView → Power → HbaView
in_mode h p = record h { power = p }

-- the medium is needed
abbrev pub awake : HbaView → HbaView
awake h = in_mode h Active

abbrev pub woken_for : Action → HbaView → HbaView
woken_for a h = if needs_medium a then awake h else h

-- a command that moves nothing is answered
abbrev pub turned : Reply → HbaView → HbaView
turned r h = in_mode h (after_reply r h.power)

-- the mode behind a driver's write: a link that goes down and an HBA reset reset the device, ST that is cleared does not
abbrev pub power_after : Consequence → Power → Power
power_after Nothing p = p
power_after Stopped p = p
power_after LinkReset p = after_reset p
power_after Reset p = after_reset p
