-- The FISes that carry the data of the commands that were served (Serial ATA, "DMA Setup FIS", "DMA Activate FIS" and "Data FIS"): for
-- each command a DMA Setup FIS, and then its Data FISes; in a write, a DMA Activate FIS comes before each.
use Rattle.std.specs.Prelude.{ℕ, ◌*◌, ◌/◌, ◌%◌, nat_eq, ◌==◌, if◌then◌else◌, List, [], ◌∷◌, ◌++◌, filter_map, replicate, slice_index, Option, None}
use Rattle.std.specs.Option.{option_and_then}
use Rattle.ahci_port.specs.PortView.{PortView, window_at}
use Rattle.ahci_table.specs.Window.{WindowState}
use Rattle.sata_fis.specs.Command.{queued_in}
use Rattle.sata_fis.specs.Fields.{QueuedFields}
use Rattle.sata_fis.specs.Layout.{h2d_at}
use Rattle.ahci_trace.specs.Sent.{bytes_at}
use Rattle.ahci_trace.specs.declared.appended.Appended.{Appended}
use Rattle.ncq_journal.specs.declared.event_kind.EventKind.{EventKind}
use Rattle.ncq_journal.specs.declared.event_kind.EventKind.TheVariants as what

-- the queued command that a Register FIS - Host to Device asks for, where these bytes are one
abbrev pub asked_in : List ℕ → Option QueuedFields
asked_in bytes = if slice_index bytes 0 == 0x27 then queued_in (h2d_at bytes) else None

-- the queued command of a window
abbrev pub command_of : WindowState → Option QueuedFields
command_of w = asked_in (bytes_at 20 w.bytes 0)

-- the command that an entry completes: that of its slot's window
abbrev pub completed_by : PortView → EventKind → Option QueuedFields
completed_by port (what.Complete tag) = option_and_then command_of (window_at port tag)
completed_by port happened = None

-- the commands that some entries complete, in their order
abbrev pub served : PortView → List Appended → List QueuedFields
served port entries = filter_map (λ entry. completed_by port entry.what) entries

-- the payloads of the Data FISes that carry so many bytes: 8,192 bytes each, and in the last what is left
abbrev pub payloads : ℕ → List ℕ
payloads bytes = replicate (bytes / 8192) 8192 ++ (if nat_eq (bytes % 8192) 0 then [] else bytes % 8192 ∷ [])

-- those of a command's data, which are its sectors of 512 bytes
abbrev pub payloads_of : QueuedFields → List ℕ
payloads_of command = payloads (512 * command.sectors)
