-- How a call is answered: exactly by the reason against it, where there is one; else it is done.
use Rattle.std.specs.Prelude.{◌≡◌, ◌⊎◌, Option, None, Some}
use Rattle.ahci_port.specs.PortView.{PortView}
use Rattle.ahci_port.specs.Steps.{LacksRoom}
use Rattle.port_refusal.specs.declared.refusal.Refusal.TheVariants as refusal
use Rattle.ahci_ffi.specs.declared.status.Status.{Status}
use Rattle.ahci_ffi.specs.declared.status.Status.TheVariants as status

-- if nothing refuses it, the call is done; else it answers the reason, and what is the same stays so
abbrev pub Told : Status → Option Status → (done same : Type 0) → Type 0
Told answer None done same = (answer ≡ status.Done) × done
Told answer (Some reason) done same = (answer ≡ reason) × same

-- the same of a call that allocates, and can be out of memory if there is no other reason
abbrev pub ToldOr : Status → Option Status → (done same : Type 0) → Type 0
ToldOr answer None done same = ((answer ≡ status.Done) × done) ⊎ ((answer ≡ (status.Refused refusal.OutOfMemory)) × same)
ToldOr answer (Some reason) done same = (answer ≡ reason) × same

-- the same of a call that can be out of memory only if the port lacks room for its entries
abbrev pub ToldOrLacking : PortView → Status → Option Status → (done same : Type 0) → Type 0
ToldOrLacking port answer None done same = ((answer ≡ status.Done) × done) ⊎ ((answer ≡ (status.Refused refusal.OutOfMemory)) × LacksRoom port × same)
ToldOrLacking port answer (Some reason) done same = (answer ≡ reason) × same
