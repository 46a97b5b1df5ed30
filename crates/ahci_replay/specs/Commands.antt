-- What a script's commands do: the port that each of them leaves, and its answer. Want of memory is left aside.
use Rattle.std.specs.Prelude.{ℕ, ◌+◌, ◌*◌, Bool, true, false, List, length, replicate, slice_index, Option, Some, None, Result, Ok, Err, IsOkAnd, ◌≡◌, ◌⊎◌}
use Rattle.std.specs.Option.{option_map, unwrap_or}
use Rattle.ahci_port.specs.Faults.{MayTake, RefusesIssue}
use Rattle.ahci_port.specs.PortView.{PortView, next_number, port_from, sectors_in}
use Rattle.ahci_port.specs.Registers.{acknowledged}
use Rattle.ahci_port.specs.Steps.{IsIssued, IsStepped, IsCollected, IsRecovered, IsReissued, IsIdentified, IsFlushed, answer_to, trimmed}
use Rattle.ahci_port.specs.declared.fault.IssueFault.{IssueFault}
use Rattle.ahci_port.specs.declared.step.DeviceStep.{DeviceStep}
use Rattle.ahci_port.specs.declared.step.DeviceStep.TheVariants as device
use Rattle.ahci_port.specs.declared.step.Stepped.{Stepped}
use Rattle.ahci_port.specs.declared.step.Stepped.TheVariants as stepped
use Rattle.ahci_regs.specs.Reading.{read_of}
use Rattle.ahci_script.specs.Said.{Said}
use Rattle.ahci_script.specs.Said as says
use Rattle.ahci_script.specs.declared.line.ScriptCommand.{ScriptCommand}
use Rattle.ahci_script.specs.declared.line.ScriptCommand.TheVariants as command
use Rattle.ahci_script.specs.declared.raw_window.RawWindow.{RawWindow}
use Rattle.port_refusal.specs.declared.refusal.Refusal.{Refusal}
use Rattle.ahci_table.specs.Build.{IsBuilt}
use Rattle.ahci_table.specs.Defaults.{default_list}
use Rattle.ahci_table.specs.Fit.{IsFit}
use Rattle.ahci_table.specs.Window.{WindowState}
use Rattle.ncq_core.specs.Identify.{identify_page}
use Rattle.ncq_journal.specs.Answer.{Answer}
use Rattle.ncq_journal.specs.Phase.{is_failed, phase}
use Rattle.ncq_journal.specs.Sector.{sector}
use Rattle.ncq_journal.specs.Work.{Work, sectors_of}
use Rattle.ncq_journal.specs.Work as work
use Rattle.ncq_journal.specs.declared.outcome.Outcome.{Outcome}
use Rattle.ncq_journal.specs.declared.outcome.Outcome.TheVariants as outcome
use Rattle.ahci_replay.specs.Refusals.{disk_refusal, of_issue, refusal_on}

-- a command is issued without FUA by a window over the default pieces, and the answer has the entry of its Issue
pub record HasIssued (tag : ℕ) (work : Work) (old new : PortView) (said : Said) : Type 0 where
  pub window : WindowState
  pub built : IsBuilt tag work false (default_list (sectors_of work)) window
  pub issued : IsIssued window old new
  pub told : said ≡ says.Issued (next_number old)

-- a window as a script spells it, for the slot of a tag
abbrev pub window_of : ℕ → RawWindow → WindowState
window_of tag w = record { tag = tag; header = w.header; bytes = w.bytes }

-- a window that a script spells is handed to the port: it is fit and issued, and the answer has the entry of its Issue; or the
-- port refuses it, nothing changes, and the answer has the name of the fault
pub data AnswersWindow (window : WindowState) (old new : PortView) (said : Said) : Type 0 where
  is_issued : MayTake old window.tag → IsFit window → IsIssued window old new → said ≡ says.Issued (next_number old) → AnswersWindow window old new said
  is_refused : (fault : IssueFault) (name : Refusal) → RefusesIssue old window fault → of_issue fault ≡ Some name → new ≡ old → said ≡ says.Refused name → AnswersWindow window old new said

-- what an issue is reported as; nothing where memory was wanting
abbrev pub issue_said : Result ℕ (WindowState × IssueFault) → Option Said
issue_said (Ok number) = Some (says.Issued number)
issue_said (Err e) = option_map says.Refused (of_issue e.1)

-- the answer of a device's step
abbrev pub step_said : Stepped → Said
step_said (stepped.Accepted entry) = says.Accepted entry
step_said (stepped.Completed first count) = says.Completed first (first + count)
step_said (stepped.Failed entry) = says.FailedStep entry

-- where the journal ends after a step that has completed some commands
abbrev pub EndsAt : Stepped → ℕ → Type 0
EndsAt (stepped.Completed first count) end = end ≡ first + count
EndsAt done end = Unit {0}

-- the device has taken a step, and the answer has its entry, or its entries
pub record HasStepped (step : DeviceStep) (old new : PortView) (said : Said) : Type 0 where
  pub done : Stepped
  pub stepped : IsStepped step old new done
  pub told : said ≡ step_said done

-- the answer of a request that ended so at this entry; a read has its sectors
abbrev pub outcome_said : Outcome → ℕ → List ℕ → Said
outcome_said outcome.Read entry bytes = says.Read entry bytes
outcome_said outcome.Wrote entry bytes = says.Wrote entry
outcome_said (outcome.Failed error lba) entry bytes = says.Failed entry error lba

-- a request is collected, and the answer is the request's
pub record HasCollected (tag number : ℕ) (old new : PortView) (said : Said) : Type 0 where
  pub reply : Answer
  pub is : answer_to old number ≡ Some reply
  pub collected : IsCollected tag old new
  pub told : said ≡ outcome_said reply.outcome reply.entry reply.bytes

-- the port has recovered from the failure of a tag's command, and the answer has the tag
pub record HasRecovered (old new : PortView) (said : Said) : Type 0 where
  pub tag : ℕ
  pub failed : is_failed (phase old.past tag) ≡ true
  pub recovered : IsRecovered tag old new
  pub told : said ≡ says.Recovered tag

-- word w of a page is in two bytes, the low one first
abbrev pub word_in : List ℕ → ℕ → ℕ
word_in page w = slice_index page (2 * w) + 256 * slice_index page (2 * w + 1)

-- what a command on a port does, where it is not refused: the port that it leaves, and its answer
abbrev pub Does : PortView → ScriptCommand → PortView → Said → Type 0
Does old (command.Write tag lba sectors fill) new said = HasIssued tag (work.Write lba (replicate (sectors * 512) fill)) old new said
Does old (command.Read tag lba sectors) new said = HasIssued tag (work.Read lba sectors) old new said
Does old (command.Accept tag) new said = HasStepped (device.Accept tag) old new said
Does old (command.Serve tags) new said = HasStepped (device.Serve tags) old new said
Does old (command.Fail tag error lba) new said = HasStepped (device.Fail tag error lba) old new said
Does old (command.Collect tag number) new said = HasCollected tag number old new said
Does old command.Recover new said = HasRecovered old new said
Does old (command.Reissue tag) new said = IsReissued tag old new × (said ≡ says.Reissued tag)
Does old (command.Identify w) new said = IsIdentified old new × (said ≡ says.Word w (word_in (identify_page (sectors_in old) old.depth) w))
Does old command.Flush new said = IsFlushed old new × (said ≡ says.Flushed)
Does old (command.Reg off) new said = (new ≡ old) × IsOkAnd (read_of old.registers off) (λ word. said ≡ says.Register word)
Does old (command.Ack mask) new said = (new ≡ record old { registers = acknowledged old.registers mask }) × (said ≡ says.Acked)
Does old (command.Show lba) new said = (new ≡ old) × (said ≡ says.Sector lba (slice_index (sector old.starting old.past lba) 0))
Does old command.Journal new said = (new ≡ old) × (said ≡ says.Journal (length old.past))
Does old command.Trim new said = (new ≡ trimmed old) × (length old.image ≡ length old.starting) × (said ≡ says.Trimmed (length old.past))
Does old (command.Raw tag window) new said = ⊥
Does old (command.Disk sectors depth first) new said = ⊥

-- a refusal changes nothing, and its name is the answer; where there is none, this is done
abbrev pub RefusedOr : Option Refusal → PortView → PortView → Said → Type 0 → Type 0
RefusedOr (Some refusal) old new said Done = (new ≡ old) × (said ≡ says.Refused refusal)
RefusedOr None old new said Done = Done

-- a command was run on a port; a window of any bytes says itself what may be answered
abbrev pub RunsOn : PortView → ScriptCommand → PortView → Said → Type 0
RunsOn old (command.Raw tag window) new said = AnswersWindow (window_of tag window) old new said
RunsOn old c new said = RefusedOr (refusal_on old c) old new said (Does old c new said)

-- a disk of zeros with free slots, or a refusal
abbrev pub MakesDisk : Option Refusal → ℕ → ℕ → Option ℕ → Option PortView → Said → Type 0
MakesDisk (Some refusal) sectors depth first new said = (new ≡ None) × (said ≡ says.Refused refusal)
MakesDisk None sectors depth first new said =
    (new ≡ Some (port_from (unwrap_or first 0) (replicate (sectors * 512) 0) depth)) × (said ≡ says.Disk sectors depth first)

-- a command is allowed here: a disk first, and then none
abbrev pub is_in_place : Option PortView → ScriptCommand → Bool
is_in_place None (command.Disk sectors depth first) = true
is_in_place None c = false
is_in_place (Some port) (command.Disk sectors depth first) = false
is_in_place (Some port) c = true

-- a command was run where it is allowed: the port before it, the port that it leaves, and its answer
abbrev pub Runs : Option PortView → ScriptCommand → Option PortView → Said → Type 0
Runs None (command.Disk sectors depth first) new said = MakesDisk (disk_refusal sectors depth first) sectors depth first new said
Runs (Some old) c (Some new) said = RunsOn old c new said
Runs old c new said = ⊥

-- a command that has no answer has changed nothing; but a read whose bytes find no memory may be collected all the same
abbrev pub MayRunOn : PortView → ScriptCommand → PortView → Type 0
MayRunOn old (command.Collect tag number) new = (new ≡ old) ⊎ ((said : Said) × RunsOn old (command.Collect tag number) new said)
MayRunOn old c new = new ≡ old

abbrev pub MayRun : Option PortView → ScriptCommand → Option PortView → Type 0
MayRun (Some old) c (Some new) = MayRunOn old c new
MayRun old c new = new ≡ old

-- a command may lack memory: one that takes some, and that nothing refuses which is looked at before. The others never
-- lack any
abbrev pub MayLackOn : PortView → ScriptCommand → Type 0
MayLackOn port (command.Write tag lba sectors fill) = refusal_on port (command.Write tag lba sectors fill) ≡ None
MayLackOn port (command.Read tag lba sectors) = refusal_on port (command.Read tag lba sectors) ≡ None
MayLackOn port (command.Raw tag window) = Unit {0}
MayLackOn port (command.Collect tag number) = refusal_on port (command.Collect tag number) ≡ None
MayLackOn port command.Recover = refusal_on port command.Recover ≡ None
MayLackOn port (command.Identify word) = refusal_on port (command.Identify word) ≡ None
MayLackOn port command.Flush = refusal_on port command.Flush ≡ None
MayLackOn port c = ⊥

abbrev pub MayLack : Option PortView → ScriptCommand → Type 0
MayLack None (command.Disk sectors depth first) = disk_refusal sectors depth first ≡ None
MayLack None c = ⊥
MayLack (Some port) c = MayLackOn port c
