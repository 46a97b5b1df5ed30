-- What a command brings into the received FIS area (AHCI 1.3.1, section 4.2.1; Serial ATA, the FISes by their titles). The kind of the
-- newest entry says which FISes came: bytes aren't compared, since the same ones may come again.
use Rattle.std.specs.Prelude.{ℕ, List, Option, None, Some}
use Rattle.ahci_port.specs.PortView.{PortView, setup_place, pio_place, register_place, bits_place}
use Rattle.ncq_journal.specs.Phase.{phase}
use Rattle.ncq_journal.specs.declared.phase.Phase.{Phase}
use Rattle.ncq_journal.specs.declared.phase.Phase.TheVariants.{Rejected}
use Rattle.ncq_journal.specs.declared.plain.Plain.TheVariants.{Flush}
use Rattle.ahci_trace.specs.Sent.{bytes_at}
use Rattle.ncq_journal.specs.declared.event_kind.EventKind.{EventKind}
use Rattle.ncq_journal.specs.declared.event_kind.EventKind.TheVariants as what
use Rattle.ahci_trace.specs.declared.received.Received.{Received}

abbrev pub nothing_received : Received
nothing_received = record { setup = None; pio = None; register = None; bits = None }

-- a Register FIS - Device to Host
abbrev pub register_came : List ℕ → Received
register_came area = record { setup = None; pio = None; register = Some (bytes_at 20 area register_place); bits = None }

-- a Set Device Bits FIS
abbrev pub set_bits_came : List ℕ → Received
set_bits_came area = record { setup = None; pio = None; register = None; bits = Some (bytes_at 8 area bits_place) }

-- a DMA Setup FIS, and a Set Device Bits FIS after the data
abbrev pub data_moved : List ℕ → Received
data_moved area = record { setup = Some (bytes_at 28 area setup_place); pio = None; register = None; bits = Some (bytes_at 8 area bits_place) }

-- a PIO Setup FIS
abbrev pub page_came : List ℕ → Received
page_came area = record { setup = None; pio = Some (bytes_at 20 area pio_place); register = None; bits = None }

-- a command that failed: a Register FIS where the device refused it, else a Set Device Bits FIS
abbrev pub failed_in : Phase → List ℕ → Received
failed_in Rejected area = register_came area
failed_in p area = set_bits_came area

-- what was received by the command whose newest entry this is
abbrev pub received_by : Option EventKind → PortView → Received
received_by (Some (what.Accept tag)) port = register_came port.area
received_by (Some (what.Complete tag)) port = data_moved port.area
received_by (Some (what.Fail tag error lba)) port = failed_in (phase port.past tag) port.area
received_by (Some (what.Recover tag)) port = page_came port.area
received_by (Some (what.Plain Flush)) port = register_came port.area
received_by (Some (what.Plain command)) port = page_came port.area
received_by newest port = nothing_received
