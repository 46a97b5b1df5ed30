-- What C sees as structs: which numbers are in them.
use Rattle.std.specs.Prelude.{ℕ, ◌/◌, List, ◌++◌, length, drop, is_some, Bool, if◌then◌else◌}
use Rattle.std.specs.Option.{unwrap_or}
use Rattle.ahci_port.specs.declared.step.Stepped.{Stepped}
use Rattle.ahci_port.specs.declared.step.Stepped.TheVariants as stepped
use Rattle.ahci_port.specs.Looking.{read_length}
use Rattle.ahci_port.specs.PortView.{PortView, owner_of}
use Rattle.ncq_journal.specs.Entry as entry
use Rattle.ncq_journal.specs.Phase.{phase}
use Rattle.ncq_journal.specs.Work as work
use Rattle.ncq_journal.specs.declared.outcome.Outcome.{Outcome}
use Rattle.ncq_journal.specs.declared.outcome.Outcome.TheVariants as outcome
use Rattle.ncq_journal.specs.declared.phase.Phase.{Phase}
use Rattle.ncq_journal.specs.declared.phase.Phase.TheVariants as phases
use Rattle.ncq_journal.specs.declared.plain.Plain.{Plain}
use Rattle.ncq_journal.specs.declared.plain.Plain.TheVariants as plain
use Rattle.ahci_ffi.specs.declared.flat.FlatStep.{FlatStep}
use Rattle.ahci_ffi.specs.declared.flat.FlatReply.{FlatReply}
use Rattle.ahci_ffi.specs.declared.flat.FlatSlot.{FlatSlot}
use Rattle.ahci_ffi.specs.declared.flat.FlatEntry.{FlatEntry}

-- the device's step
abbrev pub flat_step : Stepped → FlatStep
flat_step (stepped.Accepted number) = record { first = number; count = 1; did = 0 }
flat_step (stepped.Completed first count) = record { first = first; count = count; did = 1 }
flat_step (stepped.Failed number) = record { first = number; count = 1; did = 2 }

-- a request's answer, and its number
abbrev pub flat_reply : ℕ → Outcome → (entry bytes : ℕ) → FlatReply
flat_reply number outcome.Read entry bytes = record { number = number; entry = entry; lba = 0; bytes = bytes; outcome = 0; error = 0 }
flat_reply number outcome.Wrote entry bytes = record { number = number; entry = entry; lba = 0; bytes = 0; outcome = 1; error = 0 }
flat_reply number (outcome.Failed error lba) entry bytes = record { number = number; entry = entry; lba = lba; bytes = 0; outcome = 2; error = error }

-- a buffer with some bytes at its beginning
abbrev pub begun_with : List ℕ → List ℕ → List ℕ
begun_with bytes buffer = bytes ++ drop (length bytes) buffer

-- 1 for what holds
abbrev pub number_if : Bool → ℕ
number_if b = if b then 1 else 0

abbrev pub phase_number : Phase → ℕ
phase_number phases.Free = 0
phase_number phases.Issued = 1
phase_number phases.Accepted = 2
phase_number phases.Rejected = 3
phase_number phases.Broken = 4
phase_number phases.Held = 5
phase_number phases.Done = 6

-- a slot of a port
abbrev pub flat_slot : PortView → ℕ → FlatSlot
flat_slot port tag = record {
  number = unwrap_or (owner_of port tag) 0;
  bytes = unwrap_or (read_length port.past tag) 0;
  phase = phase_number (phase port.past tag);
  owned = number_if (is_some (owner_of port tag));
}

-- the kind of the entry of a command that is not queued
abbrev pub plain_kind : Plain → ℕ
plain_kind plain.Identify = 8
plain_kind plain.Flush = 9
plain_kind plain.ReadLog = 10

-- an entry of the journal
abbrev pub flat_entry : entry.Entry → FlatEntry
flat_entry (entry.Issue tag (work.Read lba sectors)) = record { lba = lba; sectors = sectors; kind = 0; tag = tag; error = 0 }
flat_entry (entry.Issue tag (work.Write lba bytes)) = record { lba = lba; sectors = length bytes / 512; kind = 1; tag = tag; error = 0 }
flat_entry (entry.Accept tag) = record { lba = 0; sectors = 0; kind = 2; tag = tag; error = 0 }
flat_entry (entry.Complete tag) = record { lba = 0; sectors = 0; kind = 3; tag = tag; error = 0 }
flat_entry (entry.Fail tag error lba) = record { lba = lba; sectors = 0; kind = 4; tag = tag; error = error }
flat_entry (entry.Recover tag) = record { lba = 0; sectors = 0; kind = 5; tag = tag; error = 0 }
flat_entry (entry.Reissue tag) = record { lba = 0; sectors = 0; kind = 6; tag = tag; error = 0 }
flat_entry (entry.Collect tag) = record { lba = 0; sectors = 0; kind = 7; tag = tag; error = 0 }
flat_entry (entry.Unqueued command) = record { lba = 0; sectors = 0; kind = plain_kind command; tag = 0; error = 0 }
flat_entry (entry.Zero lba sectors) = record { lba = lba; sectors = sectors; kind = 11; tag = 0; error = 0 }
