-- How C names the disk of a controller.
use Rattle.std.specs.Prelude.{◌≡◌, ℕ, Bool, true, false, ◌&&◌, ◌||◌, nat_le, List}
use Rattle.std.specs.List.{list_all}
use Rattle.hba_command.specs.declared.identity.Identity.{Identity}
use Rattle.ahci_ffi.specs.declared.status.Status.{Status}
use Rattle.ahci_ffi.specs.declared.status.Status.TheVariants as status
use Rattle.ahci_hba.specs.HbaView.{HbaView}
use Rattle.ahci_hba.specs.Keeping.{renamed}
use Rattle.hba_ffi.specs.declared.flat.FlatIdentity.{FlatIdentity}

-- a character of a text of IDENTIFY DEVICE: ASCII from the space on (ACS-3, "ATA String Convention")
abbrev pub is_character : ℕ → Bool
is_character c = nat_le 0x20 c && nat_le c 0x7E

-- a nominal media rotation rate that is not reserved (ACS-3, "IDENTIFY DEVICE", word 217)
abbrev pub is_rotation : ℕ → Bool
is_rotation r = nat_le r 1 || (nat_le 0x0401 r && nat_le r 0xFFFE)

abbrev pub is_identity : FlatIdentity → Bool
is_identity f = list_all is_character f.serial && list_all is_character f.firmware && list_all is_character f.model && is_rotation f.rotation

abbrev pub identity_of : FlatIdentity → Identity
identity_of f = record { serial = f.serial; firmware = f.firmware; model = f.model; rotation = f.rotation }

-- the disk has that name, or keeps its own
abbrev pub AnswersNaming : (valid : Bool) → FlatIdentity → Status → (old new : HbaView) → Type 0
AnswersNaming true f answer old new = (answer ≡ status.Done) × (new ≡ renamed (identity_of f) old)
AnswersNaming false f answer old new = (answer ≡ status.BadKind) × (new ≡ old)
