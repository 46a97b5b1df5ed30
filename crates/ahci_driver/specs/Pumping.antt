-- What a pump does, by the first of four cases: a halted port recovers; the lowest held tag is issued again; nothing,
-- where no tag waits for the device or is outstanding in it; else the device takes one step.
use Rattle.std.specs.Prelude.{◌≡◌, ℕ, true, false, Option, None, Some}
use Rattle.ncq_journal.specs.Halted.{halted, busy}
use Rattle.ncq_journal.specs.Phase.{phase, is_failed}
use Rattle.word_bits.specs.Places.{bits, no_places, IsLowest}
use Rattle.ahci_port.specs.declared.step.DeviceStep.{DeviceStep}
use Rattle.ahci_port.specs.declared.step.Stepped.{Stepped}
use Rattle.ahci_port.specs.declared.fault.StepFault.{StepFault}
use Rattle.ahci_port.specs.Faults.{step_refusal}
use Rattle.ahci_port.specs.Looking.{accepted_tags, held_tags, issued_tags}
use Rattle.ahci_port.specs.PortView.{PortView}
use Rattle.ahci_port.specs.Steps.{IsStepped, IsRecovered, IsReissued}
use Rattle.ahci_driver.specs.Choosing.{IsLowestStep}
use Rattle.ahci_driver.specs.declared.pumped.Pumped.{Pumped}
use Rattle.ahci_driver.specs.declared.pumped.Pumped.TheVariants as pumped

-- the device took a step that nothing refused
pub record HasStepped (old new : PortView) (done : Stepped) : Type 0 where
  pub step : DeviceStep
  pub taken : step_refusal old step ≡ None
  pub stepped : IsStepped step old new done

-- the port isn't halted, and no tag is held
abbrev pub IsRunning : PortView → Type 0
IsRunning port = (halted port.past ≡ false) × (held_tags port.past ≡ no_places)

abbrev pub IsPumped : PortView → PortView → Pumped → Type 0
IsPumped old new (pumped.Recovered tag) = (halted old.past ≡ true) × (is_failed (phase old.past tag) ≡ true) × IsRecovered tag old new
IsPumped old new (pumped.Reissued tag) = (halted old.past ≡ false) × IsLowest (held_tags old.past) tag × IsReissued tag old new
IsPumped old new pumped.Idle = IsRunning old × (busy old.past ≡ false) × (new ≡ old)
IsPumped old new (pumped.Stepped done) = IsRunning old × (busy old.past ≡ true) × HasStepped old new done

-- what a chooser's answer leads to: nothing refused it, and it was done, or something did, and the step of `Low` was
abbrev pub LeadsTo : PortView → PortView → ℕ → ℕ → DeviceStep → Stepped → Option StepFault → Type 0
LeadsTo old new issued accepted answer done None = IsStepped answer old new done
LeadsTo old new issued accepted answer done (Some fault) = (low : DeviceStep) × IsLowestStep issued accepted low × IsStepped low old new done

-- a chooser was asked once, with the tags that wait for the device and those that it has, and its answer led to a step
pub record HasChosen {C : Type 0} (gives : C → ℕ → ℕ → DeviceStep → C → Type 0) (before after : C) (old new : PortView) (done : Stepped) : Type 0 where
  pub issued : ℕ
  pub accepted : ℕ
  pub answer : DeviceStep
  pub issued_is : bits issued ≡ issued_tags old.past
  pub accepted_is : bits accepted ≡ accepted_tags old.past
  pub given : gives before issued accepted answer after
  pub led : LeadsTo old new issued accepted answer done (step_refusal old answer)

-- a chooser is asked where the device takes a step, and nowhere else
abbrev pub HasAsked : {C : Type 0} → (C → ℕ → ℕ → DeviceStep → C → Type 0) → C → C → PortView → PortView → Pumped → Type 0
HasAsked gives before after old new (pumped.Stepped done) = HasChosen gives before after old new done
HasAsked gives before after old new p = after ≡ before

-- a pump of some port
pub record HasPumped {C : Type 0} (gives : C → ℕ → ℕ → DeviceStep → C → Type 0) (before after : C) (p : Pumped) : Type 0 where
  pub old : PortView
  pub new : PortView
  pub pumped : IsPumped old new p
  pub asked : HasAsked gives before after old new p

-- the same, whatever the pump did
abbrev pub HasGotOn : {C : Type 0} → (C → ℕ → ℕ → DeviceStep → C → Type 0) → C → C → Type 0
HasGotOn gives before after = (p : Pumped) × HasPumped gives before after p
