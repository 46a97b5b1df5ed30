-- A call by C over a place: which number it answers, and what the place holds then. The headline holds of the port that it leaves.
use Rattle.std.specs.Prelude.{◌≡◌, ◌⊎◌, ℕ, IsSomeAnd, Option, None, Some, Result, Ok, Err, Box}
use Rattle.ahci_port.specs.Headline.{Headline}
use Rattle.ahci_port.specs.PortView.{PortView}
use Rattle.ahci_port.specs.Writes.{nothing_pending}
use Rattle.ahci_port.specs.declared.pending.Pending.{Pending}
use Rattle.ahci_ffi.specs.PlaceView.{PlaceView, empty_place}
use Rattle.ahci_ffi.specs.Status.{code_of}
use Rattle.port_refusal.specs.declared.refusal.Refusal.TheVariants as refusal
use Rattle.ahci_ffi.specs.declared.status.Status.{Status}
use Rattle.ahci_ffi.specs.declared.status.Status.TheVariants as status

-- the number is that of an answer of which this holds
pub record Numbered (number : ℕ) (holds : Status → Type 0) : Type 0 where
  pub answer : Status
  pub is : number ≡ code_of answer
  pub so : holds answer

-- a call that reads a port
abbrev pub ReadsPort : ℕ → Option PortView → (same : Type 0) → (Status → PortView → Type 0) → Type 0
ReadsPort number None same holds = (number ≡ code_of status.NoPort) × same
ReadsPort number (Some port) same holds = Headline port × Numbered number (λ answer. holds answer port)

-- the place stays as it is, and an empty one is reported
abbrev pub Reads : ℕ → (old new : PlaceView) → (same : Type 0) → (Status → PortView → Type 0) → Type 0
Reads number old new same holds = (new ≡ old) × ReadsPort number old.port same holds

-- a call that may change a port
abbrev pub ChangesPort : ℕ → (old new : Option PortView) → (same : Type 0) → (Status → PortView → PortView → Type 0) → Type 0
ChangesPort number None new same holds = (number ≡ code_of status.NoPort) × (new ≡ None) × same
ChangesPort number (Some old) new same holds = IsSomeAnd new (λ port. Headline port × Numbered number (λ answer. holds answer old port))

-- an empty place is reported, and else it has the port that the call leaves; what is half written stays
abbrev pub Changes : ℕ → (old new : PlaceView) → (same : Type 0) → (Status → PortView → PortView → Type 0) → Type 0
Changes number old new same holds = (new.pending ≡ old.pending) × ChangesPort number old.port new.port same holds

-- the same of a call that software writes a register by
abbrev pub Writes : ℕ → (old new : PlaceView) → (same : Type 0) → (Status → PortView → PortView → Pending → Pending → Type 0) → Type 0
Writes number old new same holds =
    ChangesPort number old.port new.port ((new.pending ≡ old.pending) × same) (λ answer before after. holds answer before after old.pending new.pending)

-- what stays half written after a call that takes the place of register writes: nothing, once it is done
abbrev pub left_pending : Status → Pending → Pending
left_pending status.Done pending = nothing_pending
left_pending other pending = pending

-- the same of a call that takes the place of register writes
abbrev pub Supersedes : ℕ → (old new : PlaceView) → (same : Type 0) → (Status → PortView → PortView → Type 0) → Type 0
Supersedes number old new same holds =
    Writes number old new same (λ answer before after pending left. holds answer before after × (left ≡ left_pending answer pending))

-- a port is made in an empty place, with nothing half written: none for exactly this reason, and else this one or want of memory
abbrev pub FillsEmpty : ℕ → (old new : PlaceView) → Option Status → PortView → Type 0
FillsEmpty number old new (Some reason) made = (number ≡ code_of reason) × (new ≡ old)
FillsEmpty number old new None made =
    ((number ≡ code_of status.Done) × (new ≡ record { port = Some made; pending = nothing_pending }) × Headline made)
    ⊎ ((number ≡ code_of (status.Refused refusal.OutOfMemory)) × (new ≡ old))

abbrev pub FillsPlace : Option PortView → ℕ → (old new : PlaceView) → Option Status → PortView → Type 0
FillsPlace None number old new reason made = FillsEmpty number old new reason made
FillsPlace (Some port) number old new reason made = (number ≡ code_of status.PortThere) × (new ≡ old)

abbrev pub Fills : ℕ → (old new : PlaceView) → Option Status → PortView → Type 0
Fills number old new reason made = FillsPlace old.port number old new reason made

-- a place is emptied, and one that was empty reported
abbrev pub EmptiesPort : ℕ → Option PortView → Type 0
EmptiesPort number None = number ≡ code_of status.NoPort
EmptiesPort number (Some port) = number ≡ code_of status.Done

abbrev pub Empties : ℕ → (old new : PlaceView) → Type 0
Empties number old new = EmptiesPort number old.port × (new ≡ empty_place)

-- a port that was made is in the place; where none was made, the reason is reported
abbrev pub IsFilled : {A : Type 0} → ℕ → (old new : PlaceView) → Result (Box PortView A) Status → Type 0
IsFilled number old new (Ok box) = (number ≡ code_of status.Done) × (new ≡ record { port = Some box.value; pending = nothing_pending }) × Headline box.value
IsFilled number old new (Err reason) = (number ≡ code_of reason) × (new ≡ old)
