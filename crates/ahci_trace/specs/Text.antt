-- The text of a trace. Each line is indented by two spaces.
use Rattle.std.specs.Prelude.{ℕ, Bool, true, false, List, [], ◌∷◌, ◌++◌, codes, Option, None, Some, flat_map}
use Rattle.std.specs.Fmt.{decimal}
use Rattle.ahci_port.specs.PortView.{PortView}
use Rattle.ahci_regs.specs.RegisterTable.{name_of}
use Rattle.ahci_replay.specs.Transcript.{Telling}
use Rattle.streams.specs.Text.{hex_of}
use Rattle.ahci_script.specs.Answers.{answer_text}
use Rattle.ncq_core.specs.DiskFis.{activate_bytes, setup_bytes}
use Rattle.ncq_journal.specs.declared.phase.Phase.{Phase}
use Rattle.ncq_journal.specs.declared.phase.Phase.TheVariants.{Free, Issued, Accepted, Rejected, Broken, Held, Done}
use Rattle.ncq_journal.specs.declared.plain.Plain.{Plain}
use Rattle.ncq_journal.specs.declared.plain.Plain.TheVariants.{Identify, Flush, ReadLog}
use Rattle.sata_fis.specs.Encoding.{data_head_bytes}
use Rattle.sata_fis.specs.Fields.{QueuedFields}
use Rattle.ahci_trace.specs.Names.{bits_text}
use Rattle.ahci_trace.specs.Sent.{SentBytes}
use Rattle.ahci_trace.specs.Trace.{Told, told_between}
use Rattle.ahci_trace.specs.Transfers.{payloads_of}
use Rattle.ahci_trace.specs.declared.appended.Appended.{Appended}
use Rattle.ncq_journal.specs.declared.event_kind.EventKind.{EventKind}
use Rattle.ncq_journal.specs.declared.event_kind.EventKind.TheVariants as what
use Rattle.ahci_trace.specs.declared.change.Change.{Change}
use Rattle.ahci_trace.specs.declared.owned.OwnedSlot.{OwnedSlot}
use Rattle.ahci_trace.specs.declared.received.Received.{Received}
use Rattle.ahci_trace.specs.declared.register_write.RegisterWrite.{RegisterWrite}

-- bytes by their hexadecimal digits, each after a space
abbrev pub bytes_text : List ℕ → List ℕ
bytes_text bytes = flat_map (λ byte. 32 ∷ hex_of 2 byte) bytes

-- a line of a name and bytes
unfoldable pub named_text : List ℕ → List ℕ → List ℕ
named_text name bytes = name ++ (bytes_text bytes ++ 10 ∷ [])

abbrev pub plain_name : Plain → List ℕ
plain_name Identify = codes "identify"
plain_name Flush = codes "flush"
plain_name ReadLog = codes "read log"

abbrev pub phase_name : Phase → List ℕ
phase_name Free = codes "free"
phase_name Issued = codes "issued"
phase_name Accepted = codes "accepted"
phase_name Rejected = codes "rejected"
phase_name Broken = codes "broken"
phase_name Held = codes "held"
phase_name Done = codes "done"

abbrev pub direction : Bool → List ℕ
direction true = codes " write "
direction false = codes " read "

-- the kind of an entry
abbrev pub kind_name : EventKind → List ℕ
kind_name (what.Issue tag write lba sectors) = codes "issue"
kind_name (what.Accept tag) = codes "accept"
kind_name (what.Complete tag) = codes "complete"
kind_name (what.Fail tag error lba) = codes "fail"
kind_name (what.Recover tag) = codes "recover"
kind_name (what.Reissue tag) = codes "reissue"
kind_name (what.Collect tag) = codes "collect"
kind_name (what.Plain command) = plain_name command
kind_name (what.Zero lba sectors) = codes "zero"

-- what an entry says of its command
abbrev pub details_text : EventKind → List ℕ
details_text (what.Issue tag write lba sectors) =
    codes " " ++ (decimal tag ++ (direction write ++ (decimal lba ++ (codes " " ++ decimal sectors))))
details_text (what.Accept tag) = codes " " ++ decimal tag
details_text (what.Complete tag) = codes " " ++ decimal tag
details_text (what.Fail tag error lba) = codes " " ++ (decimal tag ++ (32 ∷ (hex_of 2 error ++ (codes " " ++ decimal lba))))
details_text (what.Recover tag) = codes " " ++ decimal tag
details_text (what.Reissue tag) = codes " " ++ decimal tag
details_text (what.Collect tag) = codes " " ++ decimal tag
details_text (what.Plain command) = []
details_text (what.Zero lba sectors) = codes " " ++ (decimal lba ++ (codes " " ++ decimal sectors))

-- what an entry says
abbrev pub what_text : EventKind → List ℕ
what_text happened = kind_name happened ++ details_text happened

-- a new entry, by its number
abbrev pub entry_text : Appended → List ℕ
entry_text entry = codes "  entry " ++ (decimal entry.number ++ (codes ": " ++ (what_text entry.what ++ 10 ∷ [])))

-- a register that was written, and the word
abbrev pub write_text : RegisterWrite → List ℕ
write_text w = codes "  wrote " ++ (name_of w.register ++ (codes " " ++ (hex_of 8 w.word ++ 10 ∷ [])))

-- an entry of a PRDT
abbrev pub prdt_text : List ℕ → List ℕ
prdt_text entry = named_text (codes "  sent PRDT entry") entry

-- a command that was sent
abbrev pub command_text : SentBytes → List ℕ
command_text sent =
    named_text (codes "  sent command header") sent.header ++ (named_text (codes "  sent CFIS") sent.cfis ++ flat_map prdt_text sent.entries)

-- what was sent, where something was
abbrev pub sent_text : Option SentBytes → List ℕ
sent_text None = []
sent_text (Some sent) = command_text sent

-- a FIS by its name, where one came
abbrev pub fis_text : List ℕ → Option (List ℕ) → List ℕ
fis_text name None = []
fis_text name (Some bytes) = named_text name bytes

-- a Data FIS: its first dword, and how many bytes of data follow it
abbrev pub data_line : List ℕ → ℕ → List ℕ
data_line name bytes = name ++ (bytes_text data_head_bytes ++ (codes ", " ++ (decimal bytes ++ (codes " bytes" ++ 10 ∷ []))))

-- a Data FIS of a command: in a write the device asks for it first
abbrev pub data_text : Bool → ℕ → List ℕ
data_text true bytes = named_text (codes "  received DMA Activate FIS") activate_bytes ++ data_line (codes "  sent Data FIS") bytes
data_text false bytes = data_line (codes "  received Data FIS") bytes

-- the FISes that carry the data of a command
unfoldable pub transfer_text : QueuedFields → List ℕ
transfer_text command =
    named_text (codes "  received DMA Setup FIS") (setup_bytes command) ++ flat_map (data_text command.write) (payloads_of command)

-- a PIO Setup FIS, and the Data FIS with the page that it announces
abbrev pub page_text : Option (List ℕ) → List ℕ
page_text None = []
page_text (Some bytes) = named_text (codes "  received PIO Setup FIS") bytes ++ data_line (codes "  received Data FIS") 512

-- the other FISes that came, by the titles of Serial ATA
abbrev pub received_text : Received → List ℕ
received_text r =
    page_text r.pio ++ (fis_text (codes "  received D2H Register FIS") r.register ++ fis_text (codes "  received Set Device Bits FIS") r.bits)

-- a register's word, and the names of its bits
abbrev pub change_text : Change → List ℕ
change_text c =
    codes "  " ++ (name_of c.register ++ (codes " " ++ (hex_of 8 c.word ++ (bits_text c.register c.word ++ 10 ∷ []))))

-- an owned slot
abbrev pub slot_text : OwnedSlot → List ℕ
slot_text slot = codes "  slot " ++ (decimal slot.tag ++ (codes " " ++ (phase_name slot.phase ++ 10 ∷ [])))

-- the lines of a trace
abbrev pub told_text : Told → List ℕ
told_text t =
    flat_map entry_text t.entries ++ (flat_map write_text t.writes ++ (sent_text t.sent ++ (flat_map transfer_text t.served
    ++ (received_text t.received ++ (flat_map change_text t.changes ++ flat_map slot_text t.slots)))))

-- the notes after the answer of a command that has found the first port, and has left the second; there are none before the disk
abbrev pub trace_notes : Option PortView → Option PortView → List ℕ
trace_notes before after = told_text (told_between before after)

-- the text for an answer: its line, and the notes after it
abbrev pub trace_text : Telling
trace_text number line said before after = answer_text said ++ 10 ∷ trace_notes before after
