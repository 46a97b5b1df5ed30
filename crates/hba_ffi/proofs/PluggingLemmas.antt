-- What no refusal of another disk says.
use Rattle.std.proofs.Common.{◌≡◌, ℕ, ◌≤◌, Bool, true, false, cond, Option, None, Some, ap, refl, ◌∙◌}
use Rattle.std.specs.Option.{option_map}
use Rattle.ahci_port.specs.Faults as port
use Rattle.ahci_port.specs.PortView.{next_number}
use Rattle.ahci_ffi.specs.Making.{over_refusal}
use Rattle.ahci_ffi.specs.declared.status.Status.{Status}
use Rattle.ahci_ffi.specs.declared.status.Status.TheVariants as status
use Rattle.ahci_ffi.proofs.MakingLemmas.{base_may}
use Rattle.ahci_hba.specs.HbaView.{HbaView}
use Rattle.ahci_hba.specs.Plugging.{plug_refusal}
use Rattle.ahci_hba.specs.declared.fault.PlugFault.TheVariants.{Occupied, Disk}
use Rattle.hba_ffi.specs.Naming.{is_identity}
use Rattle.hba_ffi.specs.Plugging.{or_unnamed, other_refusal}
use Rattle.hba_ffi.specs.declared.flat.FlatIdentity.{FlatIdentity}

-- the first case of two that holds is none
first_of : {X : Type 0} (a : Bool) (x : X) (rest : Option X) → cond a (Some x) rest ≡ None → (a ≡ false) × (rest ≡ None)
first_of true x rest none = absurd (cc)
first_of false x rest none = (refl, none)

both_of : (o : Option Status) (is_named : Bool) → or_unnamed o is_named ≡ None → (o ≡ None) × (is_named ≡ true)
both_of (Some reason) is_named none = absurd (cc)
both_of None true none = (refl, refl)
both_of None false none = absurd (cc)

calm : (h : HbaView) (sectors depth : ℕ) (f : FlatIdentity) → other_refusal h sectors depth f ≡ None → (h.registers.port.present ≡ false) × (or_unnamed (over_refusal sectors depth (next_number h.port)) (is_identity f) ≡ None)
calm h sectors depth f none = first_of h.registers.port.present status.NotReady (or_unnamed (over_refusal sectors depth (next_number h.port)) (is_identity f)) none

-- C names the disk as IDENTIFY DEVICE can
pub is_named : (h : HbaView) (sectors depth : ℕ) (f : FlatIdentity) → other_refusal h sectors depth f ≡ None → is_identity f ≡ true
is_named h sectors depth f none = (both_of (over_refusal sectors depth (next_number h.port)) (is_identity f) (calm h sectors depth f none).1).1

-- and nothing but memory can be lacking
pub plugs : (h : HbaView) (sectors depth : ℕ) (f : FlatIdentity) (n : ℕ) → sectors ≤ 4294967295 → other_refusal h sectors depth f ≡ None → n ≡ sectors → plug_refusal h n depth ≡ None
plugs h sectors depth f n few none same =
    let out = calm h sectors depth f none in
    let made = base_may sectors depth (next_number h.port) few (both_of (over_refusal sectors depth (next_number h.port)) (is_identity f) out.1).0 in
    ap (λ b. cond b (Some Occupied) (option_map Disk (port.over_refusal n depth (next_number h.port)))) out.0
    ∙ ap (option_map Disk) (ap (λ m. port.over_refusal m depth (next_number h.port)) same ∙ made)
