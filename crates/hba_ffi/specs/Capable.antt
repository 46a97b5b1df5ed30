-- What a controller can do, as C says it.
use Rattle.std.specs.Prelude.{ℕ, Bool, not, nat_eq, Option, None, Some, unwrap_or}
use Rattle.std.specs.Option.{option_map, option_and_then}
use Rattle.hba_regs.specs.CapFields.{CapFields, usual, with_iss, with_ncs}
use Rattle.ahci_ffi.specs.Making.{over_refusal, size_refusal}
use Rattle.ahci_ffi.specs.declared.status.Status.{Status}
use Rattle.ahci_ffi.specs.declared.status.Status.TheVariants as status
use Rattle.hba_ffi.specs.declared.flat.FlatCapabilities.{FlatCapabilities}

-- a flag of C
abbrev pub is_set : ℕ → Bool
is_set flag = not (nat_eq flag 0)

abbrev pub with_flags : CapFields → FlatCapabilities → CapFields
with_flags c f =
    record c {
      s64a = is_set f.s64a;
      sncq = is_set f.sncq;
      sss = is_set f.sss;
      sclo = is_set f.sclo;
      salp = is_set f.salp;
      pmd = is_set f.pmd;
    }

-- the capabilities that C says, if both numbers are in their ranges
abbrev pub capabilities_of : FlatCapabilities → Option CapFields
capabilities_of f =
    option_map (λ c. with_flags c f) (option_and_then (λ c. with_iss c f.iss) (with_ncs usual f.ncs))

-- why no controller is made: the size and the depth first, then the capabilities
abbrev pub or_kind : Option Status → Option CapFields → Option Status
or_kind (Some reason) c = Some reason
or_kind None None = Some status.BadKind
or_kind None (Some c) = None

abbrev pub making_refusal : (bytes depth : ℕ) → FlatCapabilities → Option Status
making_refusal bytes depth f = or_kind (size_refusal bytes depth 0) (capabilities_of f)

-- the same over a base
abbrev pub over_making_refusal : (sectors depth : ℕ) → FlatCapabilities → Option Status
over_making_refusal sectors depth f = or_kind (over_refusal sectors depth 0) (capabilities_of f)

-- the capabilities that it has
abbrev pub capabilities_for : FlatCapabilities → CapFields
capabilities_for f = unwrap_or (capabilities_of f) usual
