-- What no refusal of a size says.
use Rattle.std.proofs.Common.{◌≡◌, ℕ, ◌*◌, ◌/◌, ◌%◌, ◌≤◌, Bool, true, false, cond, ◌||◌, List, length, Option, None, Some, ap, sym, refl, ◌∙◌, arith}
use Rattle.std.specs.Prelude.{nat_eq, nat_lt}
use Rattle.std.proofs.lemmas.Bool.{le-ltb, ltb-false, or_parts}
use Rattle.sector_store.specs.Shown.{buffer_sector, joined, length-buffer_sector}
use Rattle.sector_store.proofs.ShownLemmas.{length-joined}
use Rattle.ncq_core.specs.DiskState.{is_bad_depth, most_disk_sectors, most_sectors, over_fault, size_fault}
use Rattle.ncq_core.specs.declared.disk_fault.DiskFault.TheVariants as disk
use Rattle.ahci_port.specs.Faults.{first_refusal, most_first}
use Rattle.ahci_port.specs.Faults as port
use Rattle.ahci_port.specs.declared.fault.ResumeFault.TheVariants as resume
use Rattle.ahci_port.proofs.ReadingLemmas.{over_may}
use Rattle.ahci_ffi.specs.Making.{number_refusal, over_refusal, size_refusal}
use Rattle.ahci_ffi.specs.declared.status.Status.TheVariants as status
use Rattle.port_refusal.specs.declared.refusal.Refusal.TheVariants as refusal

-- the first case of two that holds is none
first_of : {X : Type 0} (a : Bool) (x : X) (rest : Option X) → cond a (Some x) rest ≡ None → (a ≡ false) × (rest ≡ None)
first_of true x rest none = absurd (cc)
first_of false x rest none = (refl, none)

calm : (depth first : ℕ) → number_refusal depth first ≡ None → (is_bad_depth depth ≡ false) × (nat_lt most_first first ≡ false)
calm depth first none =
    let one = first_of (is_bad_depth depth) (status.Refused refusal.BadDepth) (cond (nat_lt most_first first) (Some (status.Refused refusal.BadFirst)) None) none in
    (one.0, (first_of (nat_lt most_first first) (status.Refused refusal.BadFirst) None one.1).0)

-- a disk that is made may be a port's
may : (sectors depth first : ℕ) → over_fault sectors depth ≡ None → nat_lt most_first first ≡ false → port.over_refusal sectors depth first ≡ None
may sectors depth first made low = ap (λ o. first_refusal o first) made ∙ ap (λ c. cond c (Some resume.BadFirst) None) low

pub image_is_whole : (bytes depth first : ℕ) → size_refusal bytes depth first ≡ None → bytes ≡ 512 * (bytes / 512)
image_is_whole bytes depth first none =
    let sized = (first_of (nat_eq bytes 0 || nat_lt 0 (bytes % 512) || nat_lt most_disk_sectors (bytes / 512)) (status.Refused refusal.BadSize) (number_refusal depth first) none).0 in
    let inner = (or_parts (nat_eq bytes 0 || nat_lt 0 (bytes % 512)) (nat_lt most_disk_sectors (bytes / 512)) sized).0 in
    let whole = ltb-false 0 (bytes % 512) (or_parts (nat_eq bytes 0) (nat_lt 0 (bytes % 512)) inner).1 in
    omega arith

pub image_fits : (bytes depth first : ℕ) → size_refusal bytes depth first ≡ None → over_fault (bytes / 512) depth ≡ None
image_fits bytes depth first none =
    let sized = first_of (nat_eq bytes 0 || nat_lt 0 (bytes % 512) || nat_lt most_disk_sectors (bytes / 512)) (status.Refused refusal.BadSize) (number_refusal depth first) none in
    let rest = calm depth first sized.1 in
    over_may bytes depth
    (ap (λ c. cond c (Some disk.BadSize) (cond (is_bad_depth depth) (Some disk.BadDepth) None)) sized.0 ∙ ap (λ c. cond c (Some disk.BadDepth) None) rest.0)

pub image_may : (bytes depth first : ℕ) → size_refusal bytes depth first ≡ None → port.over_refusal (bytes / 512) depth first ≡ None
image_may bytes depth first none =
    let sized = first_of (nat_eq bytes 0 || nat_lt 0 (bytes % 512) || nat_lt most_disk_sectors (bytes / 512)) (status.Refused refusal.BadSize) (number_refusal depth first) none in
    may (bytes / 512) depth first (image_fits bytes depth first none) (calm depth first sized.1).1

pub base_fits : (sectors depth first : ℕ) → sectors ≤ 4294967295 → over_refusal sectors depth first ≡ None → over_fault sectors depth ≡ None
base_fits sectors depth first few none =
    let sized = first_of (nat_eq sectors 0) (status.Refused refusal.BadSize) (number_refusal depth first) none in
    let fits : (nat_eq sectors 0 || nat_lt most_sectors sectors) ≡ false = ap (λ c. c || nat_lt most_sectors sectors) sized.0 ∙ le-ltb 4294967295 sectors few in
    ap (λ c. cond c (Some disk.BadSize) (cond (is_bad_depth depth) (Some disk.BadDepth) None)) fits ∙ ap (λ c. cond c (Some disk.BadDepth) None) (calm depth first sized.1).0

pub base_may : (sectors depth first : ℕ) → sectors ≤ 4294967295 → over_refusal sectors depth first ≡ None → port.over_refusal sectors depth first ≡ None
base_may sectors depth first few none =
    let sized = first_of (nat_eq sectors 0) (status.Refused refusal.BadSize) (number_refusal depth first) none in
    may sectors depth first (base_fits sectors depth first few none) (calm depth first sized.1).1

-- a disk over a base has the sectors that it was made of
pub base_size : (base : List ℕ) (sectors : ℕ) (image : List ℕ) → image ≡ joined (buffer_sector base) sectors → length image / 512 ≡ sectors
base_size base sectors image is = let size = ap length is ∙ length-joined (buffer_sector base) sectors (length-buffer_sector base) in omega arith
