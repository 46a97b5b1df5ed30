-- What a worker does with the port until its request is answered: some pumps, and then it collects.
use Rattle.std.specs.Prelude.{◌≡◌, ℕ, true, List, Some}
use Rattle.ncq_journal.specs.Halted.{halted}
use Rattle.ncq_journal.specs.declared.outcome.Outcome.{Outcome}
use Rattle.ahci_port.specs.declared.fault.CollectFault.TheVariants.{Stranger}
use Rattle.ahci_port.specs.declared.step.DeviceStep.{DeviceStep}
use Rattle.ahci_port.specs.PortView.{PortView}
use Rattle.ahci_port.specs.Steps.{IsCollected, LacksRoom}
use Rattle.ahci_driver.specs.Pumping.{HasAsked, IsPumped}
use Rattle.ahci_driver.specs.Settled.{answered_as}
use Rattle.ahci_driver.specs.Received.{Received}
use Rattle.ahci_driver.specs.Tickets.{TicketView, ticket_refusal}
use Rattle.ahci_driver.specs.declared.unfinished.Unfinished.{Unfinished}
use Rattle.ahci_driver.specs.declared.unfinished.Unfinished.TheVariants as unfinished
use Rattle.ahci_driver.specs.declared.pumped.Pumped.{Pumped}

-- why the request of a ticket isn't finished on a port that got on: its slot has no such request; or the port is halted, and has no room to recover
abbrev pub IsUnfinished : TicketView → PortView → Unfinished → Type 0
IsUnfinished ticket port unfinished.Stranger = ticket_refusal port ticket ≡ Some Stranger
IsUnfinished ticket port unfinished.OutOfMemory = (halted port.past ≡ true) × LacksRoom port
IsUnfinished ticket port unfinished.NotYet = Unit {0}

module _ {C : Type 0} (gives : C → ℕ → ℕ → DeviceStep → C → Type 0) where
  -- a port got on by pumps, one after another; whenever the device took a step, the chooser was asked for it
  pub data HasGotOn : C → C → PortView → PortView → Type 0 where
    at_once : (chooser : C) (port : PortView) → HasGotOn chooser chooser port port
    one_more : (before between after : C) (old middle new : PortView) (did : Pumped)
        → HasGotOn before between old middle → IsPumped middle new did → HasAsked gives between after middle new did → HasGotOn before after old new

  -- after some pumps the answer of a tag's request was taken, and its slot freed
  pub record HasFinished (before after : C) (tag number : ℕ) (old new : PortView) (entry : ℕ) (outcome : Outcome) (bytes : List ℕ) : Type 0 where
    pub between : PortView
    pub got_on : HasGotOn before after old between
    pub answer : answered_as between number ≡ Some (record { entry = entry; outcome = outcome; bytes = bytes })
    pub collected : IsCollected tag between new

  -- the same of some port, which was behind the lock
  pub record HasTaken (before after : C) (tag number entry : ℕ) (outcome : Outcome) (bytes : List ℕ) : Type 0 where
    pub old : PortView
    pub new : PortView
    pub finished : HasFinished before after tag number old new entry outcome bytes

  -- the chooser was asked in some turns with the lock, one after another
  pub data HasWaited : C → C → Type 0 where
    no_turn : (chooser : C) → HasWaited chooser chooser
    turn : (before between after : C) (old new : PortView) → HasWaited before between → HasGotOn between after old new → HasWaited before after

  -- after some turns the answer of a tag's request was taken
  pub record HasAnswered (before after : C) (tag number entry : ℕ) (outcome : Outcome) (bytes : List ℕ) : Type 0 where
    pub between : C
    pub waited : HasWaited before between
    pub taken : HasTaken between after tag number entry outcome bytes

  -- the same of a receipt
  pub record HasReceived (before after : C) (receipt : Received) : Type 0 where
    pub tag : ℕ
    pub answered : HasAnswered before after tag receipt.number receipt.answer.entry receipt.answer.outcome receipt.answer.bytes
