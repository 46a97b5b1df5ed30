-- What a word does that a driver writes to a register (AHCI 1.3.1, section 3.3): PxSACT announces a command and PxCI issues it,
-- ST of PxCMD off and on is the way back from a failure, and every other register takes the word as its table says.
use Rattle.std.specs.Prelude.{◌≡◌, ◌≢◌, ℕ, zero, suc, ◌*◌, ◌/◌, Bool, true, false, ◌&&◌, if◌then◌else◌, List, length, take, drop, Result, Ok, Err}
use Rattle.ahci_regs.specs.PortState.{PortState}
use Rattle.ahci_regs.specs.Writing.{written}
use Rattle.ahci_regs.specs.RegisterTable.{register_at}
use Rattle.ahci_regs.specs.declared.fault.RegFault.{RegFault}
use Rattle.ahci_regs.specs.declared.fault.RegFault.TheVariants.{Running}
use Rattle.ahci_regs.specs.declared.register.Register.{Register}
use Rattle.ahci_regs.specs.declared.register.Register.TheVariants.{PxCmd, PxSact, PxCi}
use Rattle.ahci_table.specs.Fit.{IsFit}
use Rattle.ahci_table.specs.Window.{WindowState}
use Rattle.ncq_journal.specs.Halted.{halted}
use Rattle.ncq_journal.specs.Phase.{phase, is_failed}
use Rattle.word_bits.specs.Places.{bits, has_place, minus, no_places, only_below, union, word_of}
use Rattle.ahci_port.specs.Faults.{MayTake, RefusesIssue, is_held}
use Rattle.ahci_port.specs.PortView.{PortView}
use Rattle.ahci_port.specs.Steps.{IsIssued, IsRecovered, IsReissued, LacksRoom}
use Rattle.ahci_port.specs.declared.fault.IssueFault.{IssueFault}
use Rattle.ahci_port.specs.declared.fault.IssueFault.TheVariants as issue
use Rattle.ahci_port.specs.declared.fault.WriteFault.{WriteFault}
use Rattle.ahci_port.specs.declared.fault.WriteFault.TheVariants as write_fault
use Rattle.ahci_port.specs.declared.pending.Pending.{Pending}
use Rattle.ahci_port.specs.declared.written.Written.{Written}
use Rattle.ahci_port.specs.declared.written.Written.TheVariants.{Noted, Commanded, Recovered}

-- before the first write nothing is pending
abbrev pub nothing_pending : Pending
nothing_pending = record { sact = 0; stopped = false }

-- a guest's memory has the headers of the 32 slots one after the other, and each slot's window in a 32nd part of the rest
abbrev pub share : List ℕ → ℕ
share windows = length windows / 32

abbrev pub window_from : List ℕ → List ℕ → ℕ → WindowState
window_from list windows tag = record {
  tag = tag;
  header = take 32 (drop (32 * tag) list);
  bytes = take (share windows) (drop (share windows * tag) windows);
}

-- no command moves: the port is as it was
abbrev pub IsSame : PortView → PortView → Written → Type 0
IsSame old new did = (did ≡ Noted) × (new ≡ old)

-- the registers as a driver sees them between its writes: PxSACT has what is announced, and once ST is off after a failure the
-- port is stopped and has no command
abbrev pub shown : PortView → Pending → PortState
shown port pending =
    if pending.stopped && halted port.past then record port.registers { st = false; sact = no_places; ci = no_places }
    else record port.registers { sact = union port.registers.sact (bits pending.sact) }

-- PxSACT (section 3.3.13): the bit of a slot that the port has announces a command, and one that is set already changes nothing
pub record TakesSact (word : ℕ) (old new : PortView) (before after : Pending) (did : Written) : Type 0 where
  pub running : halted old.past ≡ false
  pub same : IsSame old new did
  pub sact_is : bits after.sact ≡ union (bits before.sact) (minus (only_below old.depth (bits word)) old.registers.sact)
  pub stopped_same : after.stopped ≡ before.stopped

-- the answer names these slots
abbrev pub HasCommanded : List Bool → Written → Type 0
HasCommanded slots (Commanded word) = bits word ≡ slots
HasCommanded slots other = ⊥

-- PxCI (section 3.3.14): the slots whose bits are newly set
abbrev pub newly_set : PortView → ℕ → List Bool
newly_set port word = minus (bits word) port.registers.ci

-- the word of those that were not announced
abbrev pub unannounced : PortView → Pending → ℕ → ℕ
unannounced port before word = word_of (minus (newly_set port word) (bits before.sact))

-- a slot's command is issued, by the window that the memory has for it; a held one is issued again
abbrev pub CommandsBy : (held : Bool) → List ℕ → List ℕ → ℕ → PortView → PortView → Type 0
CommandsBy true list windows tag old new = IsReissued tag old new
CommandsBy false list windows tag old new =
    MayTake old tag × IsFit (window_from list windows tag) × IsIssued (window_from list windows tag) old new

-- where its bit is newly set
abbrev pub CommandsSlot : (set : Bool) → List ℕ → List ℕ → ℕ → PortView → PortView → Type 0
CommandsSlot true list windows tag old new = CommandsBy (is_held (phase old.past tag)) list windows tag old new
CommandsSlot false list windows tag old new = new ≡ old

-- one thing happens, and then another
pub record Follow (first second : PortView → Type 0) : Type 0 where
  pub middle : PortView
  pub one : first middle
  pub other : second middle

-- the commands of the slots below a place are issued, the lowest first
unfoldable pub CommandsBelow : ℕ → List Bool → List ℕ → List ℕ → PortView → PortView → Type 0
CommandsBelow zero slots list windows old new = new ≡ old
CommandsBelow (suc n) slots list windows old new =
    Follow (λ middle. CommandsBelow n slots list windows old middle) (λ middle. CommandsSlot (has_place slots n) list windows n middle new)

-- those of all newly set bits are issued, and no longer announced
pub record TakesCi (word : ℕ) (list windows : List ℕ) (old new : PortView) (before after : Pending) (did : Written) : Type 0 where
  pub running : halted old.past ≡ false
  pub announced : unannounced old before word ≡ 0
  pub commanded : CommandsBelow 32 (newly_set old word) list windows old new
  pub did_is : HasCommanded (newly_set old word) did
  pub sact_is : bits after.sact ≡ minus (bits before.sact) (newly_set old word)
  pub stopped_same : after.stopped ≡ before.stopped

-- ST goes on: where it was off after a failure, the port recovers
abbrev pub Starts : (back : Bool) → PortView → PortView → Written → Type 0
Starts true old new (Recovered tag) = (is_failed (phase old.past tag) ≡ true) × IsRecovered tag old new
Starts true old new other = ⊥
Starts false old new did = IsSame old new did

-- PxCMD (section 3.3.7) by ST: off, after a failure, it ends what was announced; on, it is the way back
abbrev pub Commands : (st : Bool) → PortView → PortView → Pending → Pending → Written → Type 0
Commands false old new before after did = (halted old.past ≡ true) × IsSame old new did × (after ≡ record { sact = 0; stopped = true })
Commands true old new before after did = Starts (before.stopped && halted old.past) old new did × (after ≡ record before { stopped = false })

-- FRE stays set
abbrev pub TakesCommand : ℕ → PortView → PortView → Pending → Pending → Written → Type 0
TakesCommand word old new before after did =
    (has_place (bits word) 4 ≡ true) × Commands (has_place (bits word) 0) old new before after did

-- any other register takes the word as its table says, and the port changes in its registers alone
pub record StoresWord (register : Register) (word : ℕ) (old new : PortView) : Type 0 where
  pub registers_are : written old.registers word register ≡ Ok new.registers
  pub rest_same : new ≡ record old { registers = new.registers }

abbrev pub TakesWord : Register → ℕ → PortView → PortView → Pending → Pending → Written → Type 0
TakesWord register word old new before after did = (did ≡ Noted) × StoresWord register word old new × (after ≡ before)

-- a register whose words move no command and stop no port
abbrev pub keeps_commands : Register → Bool
keeps_commands PxSact = false
keeps_commands PxCi = false
keeps_commands PxCmd = false
keeps_commands other = true

-- a write that is taken
abbrev pub TakesAt : Result Register RegFault → ℕ → List ℕ → List ℕ → PortView → PortView → Pending → Pending → Written → Type 0
TakesAt (Err fault) word list windows old new before after did = ⊥
TakesAt (Ok PxSact) word list windows old new before after did = TakesSact word old new before after did
TakesAt (Ok PxCi) word list windows old new before after did = TakesCi word list windows old new before after did
TakesAt (Ok PxCmd) word list windows old new before after did = TakesCommand word old new before after did
TakesAt (Ok register) word list windows old new before after did = TakesWord register word old new before after did

abbrev pub TakesWrite : ℕ → ℕ → List ℕ → List ℕ → PortView → PortView → Pending → Pending → Written → Type 0
TakesWrite off word list windows old new before after did = TakesAt (register_at off) word list windows old new before after did

-- why a write of PxSACT is not taken
abbrev pub RefusesSact : PortView → WriteFault → Type 0
RefusesSact port write_fault.Halted = halted port.past ≡ true
RefusesSact port other = ⊥

-- why the command of a slot is not issued
abbrev pub RefusesSlot : List ℕ → List ℕ → ℕ → PortView → IssueFault → Type 0
RefusesSlot list windows tag port issue.Halted = halted port.past ≡ true
RefusesSlot list windows tag port issue.OutOfMemory = (is_held (phase port.past tag) ≡ false) × MayTake port tag
RefusesSlot list windows tag port fault = (is_held (phase port.past tag) ≡ false) × RefusesIssue port (window_from list windows tag) fault

-- why a write of PxCI is not taken, or not wholly
abbrev pub RefusesCi : ℕ → List ℕ → List ℕ → PortView → PortView → Pending → WriteFault → Type 0
RefusesCi word list windows old new before write_fault.Halted = halted old.past ≡ true
RefusesCi word list windows old new before write_fault.NotQueued = (halted old.past ≡ false) × (unannounced old before word ≢ 0)
RefusesCi word list windows old new before (write_fault.Issue slot fault) =
    (halted old.past ≡ false) × (unannounced old before word ≡ 0) × (has_place (newly_set old word) slot ≡ true)
    × RefusesSlot list windows slot new fault
RefusesCi word list windows old new before other = ⊥

-- what a refused write leaves: all as it was, but for the commands of the slots below the one whose command is not issued
abbrev pub Leaves : ℕ → List ℕ → List ℕ → PortView → PortView → Pending → Pending → WriteFault → Type 0
Leaves word list windows old new before after (write_fault.Issue slot fault) =
    CommandsBelow slot (newly_set old word) list windows old new
    × (bits after.sact ≡ minus (bits before.sact) (only_below slot (newly_set old word))) × (after.stopped ≡ before.stopped)
Leaves word list windows old new before after other = (new ≡ old) × (after ≡ before)

-- why a write of PxCMD is not taken
abbrev pub RefusesStart : ℕ → PortView → Pending → WriteFault → Type 0
RefusesStart word port before (write_fault.Register Running) = has_place (bits word) 4 ≡ false
RefusesStart word port before write_fault.NotHalted =
    (has_place (bits word) 4 ≡ true) × (has_place (bits word) 0 ≡ false) × (halted port.past ≡ false)
RefusesStart word port before write_fault.OutOfMemory =
    (has_place (bits word) 4 ≡ true) × (has_place (bits word) 0 ≡ true) × (before.stopped ≡ true) × (halted port.past ≡ true) × LacksRoom port
RefusesStart word port before other = ⊥

-- why one of any other register is not
abbrev pub RefusesWord : Register → ℕ → PortView → WriteFault → Type 0
RefusesWord register word port (write_fault.Register refusal) = written port.registers word register ≡ Err refusal
RefusesWord register word port other = ⊥

-- a write that is not taken
abbrev pub RefusesAt : Result Register RegFault → ℕ → List ℕ → List ℕ → PortView → PortView → Pending → WriteFault → Type 0
RefusesAt (Err refusal) word list windows old new before fault = fault ≡ write_fault.Register refusal
RefusesAt (Ok PxSact) word list windows old new before fault = RefusesSact old fault
RefusesAt (Ok PxCi) word list windows old new before fault = RefusesCi word list windows old new before fault
RefusesAt (Ok PxCmd) word list windows old new before fault = RefusesStart word old before fault
RefusesAt (Ok register) word list windows old new before fault = RefusesWord register word old fault

abbrev pub RefusesWrite : ℕ → ℕ → List ℕ → List ℕ → PortView → PortView → Pending → WriteFault → Type 0
RefusesWrite off word list windows old new before fault = RefusesAt (register_at off) word list windows old new before fault
