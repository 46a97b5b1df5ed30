-- When no port and no window is made, and which one is made else.
use Rattle.std.specs.Prelude.{◌≡◌, ℕ, ◌/◌, ◌%◌, ◌||◌, nat_eq, nat_lt, Option, None, Some, Result, Ok, Err, if◌then◌else◌}
use Rattle.ahci_port.specs.Faults.{most_first}
use Rattle.ncq_core.specs.DiskState.{most_depth, most_disk_sectors}
use Rattle.port_refusal.specs.declared.refusal.Refusal.TheVariants as refusal
use Rattle.ahci_ffi.specs.declared.status.Status.{Status}
use Rattle.ahci_ffi.specs.declared.status.Status.TheVariants as status

-- the depth is not 1 to 32; the number of the first entry is over 2^63
abbrev pub number_refusal : (depth first : ℕ) → Option Status
number_refusal depth first =
    if nat_eq depth 0 || nat_lt most_depth depth then Some (status.Refused refusal.BadDepth)
    else (if nat_lt most_first first then Some (status.Refused refusal.BadFirst) else None)

-- the image is not 1 to 131,072 whole sectors, or else one of these
abbrev pub size_refusal : (bytes depth first : ℕ) → Option Status
size_refusal bytes depth first =
    if nat_eq bytes 0 || nat_lt 0 (bytes % 512) || nat_lt most_disk_sectors (bytes / 512) then Some (status.Refused refusal.BadSize)
    else number_refusal depth first

-- a disk over a base has no sectors, or else one of these
abbrev pub over_refusal : (sectors depth first : ℕ) → Option Status
over_refusal sectors depth first = if nat_eq sectors 0 then Some (status.Refused refusal.BadSize) else number_refusal depth first

-- this holds of what was made; or memory was refused
abbrev pub MadeUnless : {X : Type 0} → Result X Status → (X → Type 0) → Type 0
MadeUnless (Ok made) holds = holds made
MadeUnless (Err reason) holds = reason ≡ (status.Refused refusal.OutOfMemory)

-- nothing is made for exactly this reason, and else something of which this holds, or memory was refused
abbrev pub Makes : {X : Type 0} → Option Status → Result X Status → (X → Type 0) → Type 0
Makes None result holds = MadeUnless result holds
Makes (Some reason) result holds = result ≡ Err reason
