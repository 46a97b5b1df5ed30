-- How a command that C asks for is answered: its arguments first, then what the port says.
use Rattle.std.specs.Prelude.{◌≡◌, ℕ, ◌*◌, ◌%◌, Bool, ◌&&◌, not, nat_eq, nat_le, nat_lt, List, length, Option, None, Some, if◌then◌else◌}
use Rattle.std.specs.Option.{option_or}
use Rattle.ahci_port.specs.Faults.{early_refusal, submit_refusal}
use Rattle.ahci_port.specs.PortView.{PortView}
use Rattle.ahci_port.specs.Refusals.{of_issue, of_submit}
use Rattle.ahci_table.specs.Window.{WindowState}
use Rattle.ncq_journal.specs.Work.{Work, Read, Write}
use Rattle.ahci_ffi.specs.Done.{AnswersWindow, Same}
use Rattle.ahci_ffi.specs.Refusals.{with_length, with_tag}
use Rattle.ahci_ffi.specs.Status.{refused}
use Rattle.port_refusal.specs.declared.refusal.Refusal.TheVariants as refusal
use Rattle.ahci_ffi.specs.declared.status.Status.{Status}
use Rattle.ahci_ffi.specs.declared.status.Status.TheVariants as status

-- refused by its arguments for this reason, or else answered
abbrev pub AnswersUnless : Option Status → Status → (answered same : Type 0) → Type 0
AnswersUnless None answer answered same = answered
AnswersUnless (Some reason) answer answered same = (answer ≡ reason) × same

-- memory was refused for the window, or the port has answered it
pub data AnswersCopy (window : WindowState) (answer : Status) (old new : PortView) (before after : ℕ) : Type 0 where
  is_answered : AnswersWindow window answer old new before after → AnswersCopy window answer old new before after
  lacks_memory : answer ≡ (status.Refused refusal.OutOfMemory) → new ≡ old → after ≡ before → AnswersCopy window answer old new before after

-- why the memory of a window is not copied: its arguments, and then what the port says of its tag
abbrev pub issue_refused : PortView → (tag header : ℕ) → Option Status
issue_refused port tag header = option_or (with_tag tag (with_length 32 header None)) (refused of_issue (early_refusal port tag))

abbrev pub AnswersIssue : ℕ → (header memory : List ℕ) → Status → PortView → PortView → (before after : ℕ) → Type 0
AnswersIssue tag header memory answer old new before after =
    AnswersUnless (issue_refused old tag (length header)) answer
    (AnswersCopy (record { tag = tag; header = header; bytes = memory }) answer old new before after) (Same old new before after)

-- the kinds of a command: 0 reads, 1 writes, and 2 and 3 do the same with FUA
abbrev pub writes : (kind : ℕ) → Bool
writes kind = nat_eq (kind % 2) 1

abbrev pub has_fua : (kind : ℕ) → Bool
has_fua kind = nat_le 2 kind

-- why no command is made of these arguments: the kind, and the length of a write's data
abbrev pub kind_refusal : (kind sectors bytes : ℕ) → Option Status
kind_refusal kind sectors bytes =
    if nat_lt 3 kind then Some status.BadKind
    else (if writes kind && not (nat_eq bytes (512 * sectors)) then Some (status.Refused refusal.BadCount) else None)

-- why a command is not submitted: its arguments, and then what the port says, all of it before memory is asked for
abbrev pub submit_refused : PortView → (tag kind lba sectors bytes : ℕ) → Option Status
submit_refused port tag kind lba sectors bytes =
    with_tag tag (option_or (kind_refusal kind sectors bytes) (refused of_submit (submit_refusal port tag lba sectors)))

abbrev pub work_asked : (kind lba sectors : ℕ) → List ℕ → Work
work_asked kind lba sectors bytes = if writes kind then Write lba bytes else Read lba sectors
