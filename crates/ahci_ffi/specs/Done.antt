-- What each call does of a port if nothing refuses it, and what it puts where its pointers lead.
use Rattle.std.specs.Prelude.{◌≡◌, ℕ, true, List, length, Some, Result, Ok, Err}
use Rattle.ahci_port.specs.Faults.{MayTake, RefusesIssue}
use Rattle.ahci_port.specs.Looking.{accepted_tags, held_tags, issued_tags}
use Rattle.word_bits.specs.Places.{bits}
use Rattle.ahci_ffi.specs.declared.flat.FlatSets.{FlatSets}
use Rattle.ahci_port.specs.PortView.{PortView, next_number}
use Rattle.ahci_port.specs.Steps.{IsCollected, IsIssued, IsRecovered, IsStepped, answer_to}
use Rattle.ahci_port.specs.declared.fault.IssueFault.{IssueFault}
use Rattle.ahci_port.specs.declared.step.DeviceStep.{DeviceStep}
use Rattle.ahci_port.specs.declared.step.Stepped.{Stepped}
use Rattle.ahci_regs.specs.declared.fault.RegFault.{RegFault}
use Rattle.ahci_table.specs.Fit.{IsFit}
use Rattle.ahci_table.specs.Text.{text}
use Rattle.ahci_table.specs.Window.{WindowState}
use Rattle.ncq_journal.specs.Answer.{Answer}
use Rattle.ncq_journal.specs.Phase.{is_failed, phase}
use Rattle.ncq_journal.specs.declared.outcome.Outcome.{Outcome}
use Rattle.ncq_journal.specs.declared.outcome.Outcome.TheVariants as outcome
use Rattle.ahci_ffi.specs.Flat.{begun_with, flat_reply, flat_step}
use Rattle.ahci_port.specs.Refusals.{of_issue}
use Rattle.ahci_regs.specs.Refusals.{of_register}
use Rattle.ahci_ffi.specs.declared.flat.FlatReply.{FlatReply}
use Rattle.ahci_ffi.specs.declared.flat.FlatStep.{FlatStep}
use Rattle.ahci_ffi.specs.declared.status.Status.{Status}
use Rattle.ahci_ffi.specs.declared.status.Status.TheVariants as status

-- two things are as they were
abbrev pub Same : {X Y : Type 0} → (old new : X) → (before after : Y) → Type 0
Same old new before after = (new ≡ old) × (after ≡ before)

-- the device has taken a step, which is in a struct
pub record HasStepped (step : DeviceStep) (old new : PortView) (flat : FlatStep) : Type 0 where
  pub done : Stepped
  pub stepped : IsStepped step old new done
  pub told : flat ≡ flat_step done

-- a request is collected: its answer is in a struct, and a read's bytes at the beginning of a buffer
pub record HasCollected (tag number : ℕ) (old new : PortView) (reply : FlatReply) (buffer filled : List ℕ) : Type 0 where
  pub answer : Answer
  pub is : answer_to old number ≡ Some answer
  pub collected : IsCollected tag old new
  pub told : reply ≡ flat_reply number answer.outcome answer.entry (length answer.bytes)
  pub bytes : filled ≡ begun_with answer.bytes buffer

-- the port has recovered from the failure of this tag's command
pub record HasRecovered (old new : PortView) (tag : ℕ) : Type 0 where
  pub failed : is_failed (phase old.past tag) ≡ true
  pub recovered : IsRecovered tag old new

-- a window was handed to the port: it is fit and issued, and its number reported; or the port refused it, and nothing has changed
pub data AnswersWindow (window : WindowState) (answer : Status) (old new : PortView) (before after : ℕ) : Type 0 where
  is_issued : answer ≡ status.Done → MayTake old window.tag → IsFit window → IsIssued window old new → after ≡ next_number old → AnswersWindow window answer old new before after
  is_refused : (fault : IssueFault) → answer ≡ status.Refused (of_issue fault) → RefusesIssue old window fault → new ≡ old → after ≡ before → AnswersWindow window answer old new before after

-- the word of a register, or why there is none
abbrev pub AnswersRegister : Result ℕ RegFault → Status → (before after : ℕ) → Type 0
AnswersRegister (Ok word) answer before after = (answer ≡ status.Done) × (after ≡ word)
AnswersRegister (Err fault) answer before after = (answer ≡ status.Refused (of_register fault)) × (after ≡ before)

-- the text of a window has so many bytes, where a request has ended as a read
abbrev pub HasLength : Outcome → WindowState → ℕ → Type 0
HasLength outcome.Read w bytes = length (text w) ≡ bytes
HasLength o w bytes = Unit {0}

-- the tags that wait for the device, those that it has taken, and those that another's error has ended
pub record IsSets (port : PortView) (sets : FlatSets) : Type 0 where
  pub issued : bits sets.issued ≡ issued_tags port.past
  pub accepted : bits sets.accepted ≡ accepted_tags port.past
  pub held : bits sets.held ≡ held_tags port.past
