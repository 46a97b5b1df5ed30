-- The layers below a port, called alone: when each call is refused, and what it answers else.
use Rattle.std.specs.Prelude.{◌≡◌, ℕ, ◌^◌, ◌||◌, nat_eq, nat_le, nat_lt, List, length, Option, None, Some, if◌then◌else◌}
use Rattle.ahci_table.specs.Command.{queued_of}
use Rattle.ahci_table.specs.Fit.{Breaks, IsFit}
use Rattle.ahci_table.specs.Prdt.{pieces}
use Rattle.ahci_table.specs.Window.{WindowState}
use Rattle.ahci_table.specs.declared.fault.TableFault.{TableFault}
use Rattle.ncq_core.specs.DiskState.{most_depth}
use Rattle.sata_fis.specs.Fields.{QueuedFields}
use Rattle.ahci_ffi.specs.Asked.{AnswersUnless}
use Rattle.ahci_ffi.specs.Flat.{number_if}
use Rattle.ahci_ffi.specs.Refusals.{with_length, with_tag}
use Rattle.ahci_table.specs.Refusals.{of_table}
use Rattle.ahci_ffi.specs.declared.flat.FlatCommand.{FlatCommand}
use Rattle.port_refusal.specs.declared.refusal.Refusal.TheVariants as refusal
use Rattle.ahci_ffi.specs.declared.status.Status.{Status}
use Rattle.ahci_ffi.specs.declared.status.Status.TheVariants as status

-- a disk has 1 to 32 tags
abbrev pub depth_refusal : (depth : ℕ) → Option Status
depth_refusal depth = if nat_eq depth 0 || nat_lt most_depth depth then Some (status.Refused refusal.BadDepth) else None

-- a page has 512 bytes
abbrev pub page_refusal : (depth len : ℕ) → Option Status
page_refusal depth len = with_length 512 len (depth_refusal depth)

-- an error is one of a tag, at a 48-bit LBA
abbrev pub log_refusal : (tag lba len : ℕ) → Option Status
log_refusal tag lba len = with_length 512 len (with_tag tag (if nat_le (2 ^ 48) lba then Some (status.Refused refusal.BadLba) else None))

-- what a queued command asks for, and how many pieces of memory it names
abbrev pub flat_command : QueuedFields → ℕ → FlatCommand
flat_command queued count = record { lba = queued.lba; sectors = queued.sectors; kind = number_if queued.write; tag = queued.tag; pieces = count }

-- a window was looked at: it is fit, and its command is in a struct; or the first rule that it breaks is reported, or memory
-- for its copy was refused
pub data AnswersWindowCheck (window : WindowState) (answer : Status) (before after : FlatCommand) : Type 0 where
  is_fit : answer ≡ status.Done → IsFit window → after ≡ flat_command (queued_of window) (length (pieces window)) → AnswersWindowCheck window answer before after
  breaks : (fault : TableFault) → answer ≡ status.Refused (of_table fault) → Breaks window fault → after ≡ before → AnswersWindowCheck window answer before after
  lacks_memory : answer ≡ (status.Refused refusal.OutOfMemory) → after ≡ before → AnswersWindowCheck window answer before after

abbrev pub AnswersCheck : ℕ → (header memory : List ℕ) → Status → (before after : FlatCommand) → Type 0
AnswersCheck tag header memory answer before after =
    AnswersUnless (with_tag tag (with_length 32 (length header) None)) answer
    (AnswersWindowCheck (record { tag = tag; header = header; bytes = memory }) answer before after) (after ≡ before)
