-- The writes that are reported of a command have moved the port's registers, with what the device then sent.
use Rattle.std.specs.Prelude.{◌≡◌, ◌<◌, List, [], Option, Some}
use Rattle.std.specs.List.{fold}
use Rattle.ahci_port.specs.Carrying as port
use Rattle.ahci_port.specs.PortView.{PortView}
use Rattle.ahci_port.specs.Registers.{after_write, read_data}
use Rattle.ahci_regs.specs.PortState.{PortState}
use Rattle.ahci_regs.specs.RegisterTable.{offset_of}
use Rattle.ahci_replay.specs.Commands.{RunsOn}
use Rattle.ahci_script.specs.Said.{Said}
use Rattle.ahci_script.specs.declared.line.ScriptCommand.{ScriptCommand}
use Rattle.ahci_trace.specs.Entries.{newest}
use Rattle.ahci_trace.specs.Trace.{told_between}
use Rattle.ahci_trace.specs.Mark.{mark_of}
use Rattle.ncq_journal.specs.declared.event_kind.EventKind.{EventKind}
use Rattle.ncq_journal.specs.declared.event_kind.EventKind.TheVariants as what
use Rattle.ahci_trace.specs.declared.register_write.RegisterWrite.{RegisterWrite}

-- the registers after some writes
abbrev pub after_writes : PortState → List RegisterWrite → PortState
after_writes s writes = fold (λ s w. after_write s (offset_of w.register) w.word) s writes

-- the writes of the command whose newest entry this is, and what the device sends at once, lead from the old registers to the new
-- ones; a queued command is answered later. A command that the device begins, or that only collects, has no writes
abbrev pub Moves : List RegisterWrite → Option EventKind → PortState → PortState → Type 0
Moves writes (Some (what.Issue tag write lba sectors)) old new = tag < 32 → new ≡ after_writes old writes
Moves writes (Some (what.Reissue tag)) old new = tag < 32 → new ≡ after_writes old writes
Moves writes (Some (what.Recover tag)) old new = new ≡ read_data (after_writes old writes)
Moves writes (Some (what.Plain command)) old new = new ≡ port.told command (after_writes old writes)
Moves writes last old new = writes ≡ []

-- so do those that are reported of what a command did between two ports
abbrev pub ToldMove : PortView → PortView → Type 0
ToldMove old new = Moves (told_between (Some old) (Some new)).writes (newest (mark_of (Some old)) new.first new.past) old.registers new.registers

abbrev pub TellsWrites : Type 0
TellsWrites = (old new : PortView) (command : ScriptCommand) (said : Said) → RunsOn old command new said → ToldMove old new
