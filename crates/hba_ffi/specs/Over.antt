-- A call by C over a place: which number it answers, and what the place holds then. The headline holds of the port of the controller that
-- it leaves.
use Rattle.std.specs.Prelude.{◌≡◌, ◌⊎◌, ℕ, IsSomeAnd, Option, None, Some, Result, Ok, Err, Box}
use Rattle.ahci_port.specs.Headline.{Headline}
use Rattle.ahci_ffi.specs.Over.{Numbered}
use Rattle.ahci_ffi.specs.Status.{code_of}
use Rattle.ahci_ffi.specs.declared.status.Status.{Status}
use Rattle.ahci_ffi.specs.declared.status.Status.TheVariants as status
use Rattle.port_refusal.specs.declared.refusal.Refusal.TheVariants as refusal
use Rattle.ahci_hba.specs.HbaView.{HbaView}

-- a call that reads a controller
abbrev pub ReadsHeld : ℕ → Option HbaView → (same : Type 0) → (Status → HbaView → Type 0) → Type 0
ReadsHeld number None same holds = (number ≡ code_of status.NoPort) × same
ReadsHeld number (Some h) same holds = Headline h.port × Numbered number (λ answer. holds answer h)

-- the place stays as it is, and an empty one is reported
abbrev pub Reads : ℕ → (old new : Option HbaView) → (same : Type 0) → (Status → HbaView → Type 0) → Type 0
Reads number old new same holds = (new ≡ old) × ReadsHeld number old same holds

-- a call that may change a controller
abbrev pub Changes : ℕ → (old new : Option HbaView) → (same : Type 0) → (Status → HbaView → HbaView → Type 0) → Type 0
Changes number None new same holds = (number ≡ code_of status.NoPort) × (new ≡ None) × same
Changes number (Some old) new same holds = IsSomeAnd new (λ h. Headline h.port × Numbered number (λ answer. holds answer old h))

-- a controller is made in an empty place: none for exactly this reason, and else this one, or an allocation failed
abbrev pub FillsEmpty : ℕ → (old new : Option HbaView) → Option Status → HbaView → Type 0
FillsEmpty number old new (Some reason) made = (number ≡ code_of reason) × (new ≡ old)
FillsEmpty number old new None made =
    ((number ≡ code_of status.Done) × (new ≡ Some made) × Headline made.port)
    ⊎ ((number ≡ code_of (status.Refused refusal.OutOfMemory)) × (new ≡ old))

abbrev pub Fills : ℕ → (old new : Option HbaView) → Option Status → HbaView → Type 0
Fills number None new reason made = FillsEmpty number None new reason made
Fills number (Some h) new reason made = (number ≡ code_of status.PortThere) × (new ≡ Some h)

-- a place is emptied, and one that was empty is reported
abbrev pub Empties : ℕ → (old new : Option HbaView) → Type 0
Empties number None new = (number ≡ code_of status.NoPort) × (new ≡ None)
Empties number (Some h) new = (number ≡ code_of status.Done) × (new ≡ None)

-- a controller that was made is in the place; if none was made, the reason is the answer
abbrev pub IsFilled : {A : Type 0} → ℕ → (old new : Option HbaView) → Result (Box HbaView A) Status → Type 0
IsFilled number old new (Ok box) = (number ≡ code_of status.Done) × (new ≡ Some box.value) × Headline box.value.port
IsFilled number old new (Err reason) = (number ≡ code_of reason) × (new ≡ old)
