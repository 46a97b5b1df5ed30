-- How it is answered which rules for drivers an access or a command breaks: the number of the rule first, then the other arguments.
use Rattle.std.specs.Prelude.{◌≡◌, ℕ, not, nat_eq, List, length, Option, None, Some}
use Rattle.hba_command.specs.CommandFis.{command_fis}
use Rattle.hba_command.specs.Task.{task_of}
use Rattle.hba_command.specs.declared.task.Task.{Task}
use Rattle.hba_command.specs.declared.task.Task.TheVariants.{Unknown}
use Rattle.hba_regs.specs.RegisterTable.{register_at}
use Rattle.hba_regs.specs.declared.register.Register.{Register}
use Rattle.hba_rules.specs.Commands.{command_breaks}
use Rattle.hba_rules.specs.Lists.{entry_breaks, length_breaks}
use Rattle.hba_rules.specs.Rules.{IsNoRule, number_of}
use Rattle.hba_rules.specs.Writes.{write_breaks}
use Rattle.hba_rules.specs.declared.rule.Rule.{Rule}
use Rattle.port_refusal.specs.declared.refusal.Refusal.TheVariants as refusal
use Rattle.ahci_ffi.specs.Flat.{number_if}
use Rattle.ahci_ffi.specs.Refusals.{with_length, with_tag}
use Rattle.ahci_ffi.specs.Told.{Told}
use Rattle.ahci_ffi.specs.declared.status.Status.{Status}
use Rattle.ahci_ffi.specs.declared.status.Status.TheVariants as status
use Rattle.sata_fis.specs.Fields.{H2dFields}
use Rattle.ahci_hba.specs.HbaView.{HbaView}

-- the rule of a number is looked at, or no rule has the number
pub data OfRule (number : ℕ) (answer : Status) (looked : Rule → Type 0) (same : Type 0) : Type 0 where
  is_rule : (r : Rule) → number_of r ≡ number → looked r → OfRule number answer looked same
  is_none : IsNoRule number → answer ≡ status.BadKind → same → OfRule number answer looked same

-- a write at an offset, if a register is there
abbrev pub OnRegister : Option Register → Status → (Register → Type 0) → (same : Type 0) → Type 0
OnRegister None answer looked same = (answer ≡ (status.Refused refusal.NoSuchRegister)) × same
OnRegister (Some register) answer looked same = (answer ≡ status.Done) × looked register

abbrev pub AnswersWrite : Rule → (offset word : ℕ) → Status → HbaView → (before after : ℕ) → Type 0
AnswersWrite r offset word answer h before after =
    OnRegister (register_at offset) answer (λ register. after ≡ number_if (write_breaks r h.registers register word)) (after ≡ before)

abbrev pub AnswersWriteBreaks : (rule offset word : ℕ) → Status → HbaView → (before after : ℕ) → Type 0
AnswersWriteBreaks rule offset word answer h before after =
    OfRule rule answer (λ r. AnswersWrite r offset word answer h before after) (after ≡ before)

abbrev pub AnswersCommand : Rule → (slot active : ℕ) → (header fis : List ℕ) → Status → (before after : ℕ) → Type 0
AnswersCommand r slot active header fis answer before after =
    Told answer (with_tag slot (with_length 32 (length header) (with_length 20 (length fis) None)))
    (after ≡ number_if (command_breaks r slot (not (nat_eq active 0)) header fis)) (after ≡ before)

abbrev pub AnswersCommandBreaks : (rule slot active : ℕ) → (header fis : List ℕ) → Status → (before after : ℕ) → Type 0
AnswersCommandBreaks rule slot active header fis answer before after =
    OfRule rule answer (λ r. AnswersCommand r slot active header fis answer before after) (after ≡ before)

abbrev pub AnswersEntry : Rule → List ℕ → Status → (before after : ℕ) → Type 0
AnswersEntry r entry answer before after =
    Told answer (with_length 16 (length entry) None) (after ≡ number_if (entry_breaks r entry)) (after ≡ before)

abbrev pub AnswersEntryBreaks : (rule : ℕ) → List ℕ → Status → (before after : ℕ) → Type 0
AnswersEntryBreaks rule entry answer before after = OfRule rule answer (λ r. AnswersEntry r entry answer before after) (after ≡ before)

-- what a command FIS asks for
abbrev pub task_if : Option H2dFields → Task
task_if None = Unknown
task_if (Some f) = task_of f

abbrev pub task_in : List ℕ → Task
task_in fis = task_if (command_fis fis)

abbrev pub AnswersLength : Rule → List ℕ → (total : ℕ) → Status → (before after : ℕ) → Type 0
AnswersLength r fis total answer before after =
    Told answer (with_length 20 (length fis) None) (after ≡ number_if (length_breaks r (task_in fis) total)) (after ≡ before)

abbrev pub AnswersLengthBreaks : (rule : ℕ) → List ℕ → (total : ℕ) → Status → (before after : ℕ) → Type 0
AnswersLengthBreaks rule fis total answer before after = OfRule rule answer (λ r. AnswersLength r fis total answer before after) (after ≡ before)
