-- What one command did to a port, as plain values.
use Rattle.std.specs.Prelude.{List, [], None, Option, Some}
use Rattle.std.specs.Option.{option_map}
use Rattle.ahci_port.specs.PortView.{PortView}
use Rattle.sata_fis.specs.Fields.{QueuedFields}
use Rattle.ahci_trace.specs.Changes.{changes}
use Rattle.ahci_trace.specs.Entries.{new_entries, newest}
use Rattle.ahci_trace.specs.Mark.{mark_of}
use Rattle.ahci_trace.specs.Owned.{owned_slots}
use Rattle.ahci_trace.specs.Received.{nothing_received, received_by}
use Rattle.ahci_trace.specs.Sent.{SentBytes, sent_by, shown}
use Rattle.ahci_trace.specs.Transfers.{served}
use Rattle.ahci_trace.specs.Writes.{writes_by}
use Rattle.ahci_trace.specs.declared.appended.Appended.{Appended}
use Rattle.ahci_trace.specs.declared.change.Change.{Change}
use Rattle.ahci_trace.specs.declared.mark.Mark.{Mark}
use Rattle.ahci_trace.specs.declared.owned.OwnedSlot.{OwnedSlot}
use Rattle.ahci_trace.specs.declared.received.Received.{Received}
use Rattle.ahci_trace.specs.declared.register_write.RegisterWrite.{RegisterWrite}
use Rattle.ahci_trace.specs.declared.command_trace.CommandTrace.{CommandTrace}

pub record Told : Type 0 where
  pub entries : List Appended
  pub writes : List RegisterWrite
  pub sent : Option SentBytes
  pub served : List QueuedFields
  pub received : Received
  pub changes : List Change
  pub slots : List OwnedSlot

-- what the code's trace has
abbrev pub told : {A : _} → CommandTrace A → Told
told trace = record {
  entries = trace.entries.items;
  writes = trace.writes.items;
  sent = option_map shown trace.sent;
  served = trace.served.items;
  received = trace.received;
  changes = trace.changes.items;
  slots = trace.slots.items;
}

-- what there is to report of a port, since the mark
abbrev pub told_of : Mark → PortView → Told
told_of mark port = record {
  entries = new_entries mark port.first port.past;
  writes = writes_by (newest mark port.first port.past);
  sent = sent_by (newest mark port.first port.past) port;
  served = served port (new_entries mark port.first port.past);
  received = received_by (newest mark port.first port.past) port;
  changes = changes mark.words port.registers;
  slots = owned_slots port.past;
}

-- nothing, before the disk
abbrev pub nothing_told : Told
nothing_told = record { entries = []; writes = []; sent = None; served = []; received = nothing_received; changes = []; slots = [] }

-- what a command did that has found the first port, and has left the second; nothing before the disk
abbrev pub told_between : Option PortView → Option PortView → Told
told_between before None = nothing_told
told_between before (Some port) = told_of (mark_of before) port
