-- How it is answered that another disk is plugged in.
use Rattle.std.specs.Prelude.{◌≡◌, ℕ, Bool, true, false, List, length, Option, None, Some, if◌then◌else◌}
use Rattle.ahci_ffi.specs.Making.{over_refusal}
use Rattle.ahci_ffi.specs.Told.{ToldOr}
use Rattle.ahci_ffi.specs.declared.status.Status.{Status}
use Rattle.ahci_ffi.specs.declared.status.Status.TheVariants as status
use Rattle.ahci_hba.specs.HbaView.{HbaView}
use Rattle.ahci_hba.specs.Plugging.{other_plugged}
use Rattle.ahci_port.specs.PortView.{next_number}
use Rattle.sector_store.specs.Shown.{buffer_sector, joined}
use Rattle.hba_ffi.specs.Naming.{identity_of, is_identity}
use Rattle.hba_ffi.specs.declared.flat.FlatIdentity.{FlatIdentity}

-- the size, the depth and the number first, then the name
abbrev pub or_unnamed : Option Status → (is_named : Bool) → Option Status
or_unnamed (Some reason) is_named = Some reason
or_unnamed None true = None
or_unnamed None false = Some status.BadKind

-- why no other disk of so many sectors is plugged in
abbrev pub other_refusal : HbaView → (sectors depth : ℕ) → FlatIdentity → Option Status
other_refusal h sectors depth f =
    if h.registers.port.present then Some status.NotReady else or_unnamed (over_refusal sectors depth (next_number h.port)) (is_identity f)

-- another disk is plugged in, and so many entries had the journal of the one that was pulled out
pub record HasOther (base : List ℕ) (sectors depth : ℕ) (f : FlatIdentity) (old new : HbaView) (entries : ℕ) : Type 0 where
  pub state : new ≡ other_plugged old true (joined (buffer_sector base) sectors) (identity_of f) depth
  pub counted : entries ≡ length old.port.past

abbrev pub AnswersOther : (base : List ℕ) → (sectors depth : ℕ) → FlatIdentity → Status → (old new : HbaView) → (before after : ℕ) → Type 0
AnswersOther base sectors depth f answer old new before after =
    ToldOr answer (other_refusal old sectors depth f) (HasOther base sectors depth f old new after) ((new ≡ old) × (after ≡ before))
