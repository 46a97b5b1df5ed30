-- The power modes of the disk, and what moves it from one to another (ACS-3, "Power Management feature set", and the commands by their
-- titles). No time passes here, so no standby timer ends.
use Rattle.std.specs.Prelude.{ℕ, Bool, true, false}
use Rattle.hba_command.specs.declared.action.Action.{Action}
use Rattle.hba_command.specs.declared.action.Action.TheVariants as action
use Rattle.hba_command.specs.declared.power.Power.{Power}
use Rattle.hba_command.specs.declared.power.Power.TheVariants.{Active, Idle, Standby, Sleep}
use Rattle.hba_command.specs.declared.reply.Reply.{Reply}
use Rattle.hba_command.specs.declared.reply.Reply.TheVariants as reply

-- CHECK POWER MODE: the count is 00h in Standby, and FFh in Active and Idle. It isn't answered in Sleep
abbrev pub power_count : Power → ℕ
power_count Active = 0xFF
power_count Idle = 0xFF
power_count Standby = 0x00
power_count Sleep = 0x00

-- SLEEP: no command is answered from then on
abbrev pub is_awake : Power → Bool
is_awake Active = true
is_awake Idle = true
is_awake Standby = true
is_awake Sleep = false

-- only a reset ends Sleep, by hardware or software, and then the device is in Standby; it leaves the other modes (profile)
abbrev pub after_reset : Power → Power
after_reset Active = Active
after_reset Idle = Idle
after_reset Standby = Standby
after_reset Sleep = Standby

-- the mode behind a command that moves nothing
abbrev pub after_reply : Reply → Power → Power
after_reply (reply.Entered mode) p = mode  -- IDLE, STANDBY, with IMMEDIATE or without, SLEEP
after_reply (reply.Verified span) p = Active  -- READ VERIFY SECTOR(S), with EXT or without
after_reply (reply.Marked span) p = Active  -- WRITE UNCORRECTABLE EXT
after_reply reply.Done p = p
after_reply (reply.NativeMax a) p = p
after_reply reply.PowerMode p = p
after_reply reply.Diagnosed p = p
after_reply (reply.Changed c) p = p
after_reply reply.SmartStatus p = p
after_reply reply.Packet p = p

-- a command that needs the medium, whether it succeeds or fails: the device is Active from then on
abbrev pub reply_needs_medium : Reply → Bool
reply_needs_medium (reply.Entered mode) = false
reply_needs_medium (reply.Verified span) = true
reply_needs_medium (reply.Marked span) = true
reply_needs_medium reply.Done = false
reply_needs_medium (reply.NativeMax a) = false
reply_needs_medium reply.PowerMode = false
reply_needs_medium reply.Diagnosed = false
reply_needs_medium (reply.Changed c) = false
reply_needs_medium reply.SmartStatus = false
reply_needs_medium reply.Packet = false

abbrev pub needs_medium : Action → Bool
needs_medium (action.Queue q) = true
needs_medium (action.Sectors write span p) = true
needs_medium (action.Page page p) = false
needs_medium (action.Store s p) = false
needs_medium (action.Flush a) = true
needs_medium (action.Reply r) = reply_needs_medium r
needs_medium (action.Control reset) = false
needs_medium action.Abort = false
