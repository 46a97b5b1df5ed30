-- What a command sends: its header in the command list, CFIS and the entries of the PRDT (AHCI 1.3.1, sections 4.2.2 and 4.2.3).
use Rattle.std.specs.Prelude.{ℕ, zero, suc, ◌++◌, ◌+◌, ◌*◌, ◌-◌, ◌&&◌, nat_eq, nat_le, if◌then◌else◌, List, [], ◌∷◌, length, take, drop, replicate, slice_index, Option, None, Some}
use Rattle.std.specs.Option.{option_map}
use Rattle.ahci_port.specs.PortView.{PortView, window_at}
use Rattle.ahci_port.specs.declared.sent.Sent as port
use Rattle.ahci_table.specs.Prdt.{entry_place}
use Rattle.ahci_table.specs.Window.{WindowState}
use Rattle.ncq_journal.specs.declared.event_kind.EventKind.{EventKind}
use Rattle.ncq_journal.specs.declared.event_kind.EventKind.TheVariants as what
use Rattle.ahci_trace.specs.declared.sent.SentCommand.{SentCommand}

pub record SentBytes : Type 0 where
  pub header : List ℕ
  pub cfis : List ℕ
  pub entries : List (List ℕ)

-- what the code's value holds
abbrev pub shown : {A : _} → SentCommand A → SentBytes
shown sent = record { header = sent.header; cfis = sent.cfis; entries = sent.entries.items }

-- n bytes from a place on; zeros where they aren't all there
abbrev pub bytes_at : ℕ → List ℕ → ℕ → List ℕ
bytes_at n bytes place =
    if nat_le n (length bytes) && nat_le place (length bytes - n) then take n (drop place bytes) else replicate n 0

-- PRDTL: the number of entries, in bytes 2 and 3 of a header
abbrev pub prdtl_of : List ℕ → ℕ
prdtl_of header = slice_index header 2 + 256 * slice_index header 3

-- the first n entries of a PRDT
abbrev pub entries_in : List ℕ → ℕ → List (List ℕ)
entries_in bytes zero = []
entries_in bytes (suc n) = entries_in bytes n ++ bytes_at 16 bytes (entry_place n) ∷ []

-- the command of a window
abbrev pub of_window : WindowState → SentBytes
of_window w = record { header = w.header; cfis = bytes_at 20 w.bytes 0; entries = entries_in w.bytes (prdtl_of w.header) }

-- the entry of a command that is not queued, where its header counts one
abbrev pub entries_listed : port.Sent → List (List ℕ)
entries_listed sent = if nat_eq (prdtl_of sent.header) 0 then [] else sent.entry ∷ []

-- a command that is not queued
abbrev pub of_unqueued : port.Sent → SentBytes
of_unqueued sent = record { header = sent.header; cfis = sent.cfis; entries = entries_listed sent }

-- what was sent by the command whose newest entry this is: a window that is issued, now or again; or what slot 0 sent for a
-- command that is not queued, which a recovery has too, to read the log of the error
abbrev pub sent_by : Option EventKind → PortView → Option SentBytes
sent_by (Some (what.Issue tag write lba sectors)) p = option_map of_window (window_at p tag)
sent_by (Some (what.Reissue tag)) p = option_map of_window (window_at p tag)
sent_by (Some (what.Recover tag)) p = Some (of_unqueued p.sent)
sent_by (Some (what.Plain command)) p = Some (of_unqueued p.sent)
sent_by newest p = None
