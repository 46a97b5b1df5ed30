-- The port's interrupts, and when IS and the interrupt line report them (AHCI 1.3.1, sections 3.1.3, 3.3.5 and 3.3.6).
use Rattle.std.specs.Prelude.{ℕ, Bool, not, ◌&&◌, ◌||◌, List, nat_eq, if◌then◌else◌}
use Rattle.word_bits.specs.Places.{has_place, with_place, intersection, word_of}
use Rattle.hba_regs.specs.HbaState.{HbaPort, HbaState}
use Rattle.hba_regs.specs.declared.fatal.Fatal.{Fatal}
use Rattle.hba_regs.specs.declared.fatal.Fatal.TheVariants.{HostBusFatal, HostBusData, Interface}

-- the bits of PxIS that this model raises
abbrev pub dhrs : ℕ
dhrs = 0

abbrev pub pss : ℕ
pss = 1

abbrev pub sdbs : ℕ
sdbs = 3

abbrev pub ufs : ℕ
ufs = 4

abbrev pub dps : ℕ
dps = 5

abbrev pub pcs : ℕ
pcs = 6

abbrev pub prcs : ℕ
prcs = 22

abbrev pub ofs : ℕ
ofs = 24

abbrev pub infs : ℕ
infs = 26

abbrev pub tfes : ℕ
tfes = 30

-- IFS is bit 27, HBDS 28, HBFS 29
abbrev pub place_of : Fatal → ℕ
place_of HostBusFatal = 29
place_of HostBusData = 28
place_of Interface = 27

-- a set with one place more, if it is raised
abbrev pub raised : Bool → ℕ → List Bool → List Bool
raised b place s = if b then with_place s place else s

-- PxIS as it reads: the bits that are kept, PCS while PxSERR.DIAG.X (bit 26) is 1, PRCS while PxSERR.DIAG.N (bit 16) is 1, and UFS while
-- PxSERR.DIAG.F (bit 25) is 1. The standard sets F when an unknown FIS is detected and UFS once it is posted; here it is posted first, so the
-- two go together
abbrev pub interrupts : HbaPort → List Bool
interrupts p = raised (has_place p.serr 26) pcs (raised (has_place p.serr 16) prcs (raised (has_place p.serr 25) ufs p.is))

-- some bit of PxIS is enabled in PxIE
abbrev pub is_pending : HbaPort → Bool
is_pending p = not (nat_eq (word_of (intersection (interrupts p) p.ie)) 0)

-- the end of every write and of every move of the device: IS.IPS is set while an interrupt of the port is pending
abbrev pub settled : HbaState → HbaState
settled s = record s { ips = s.ips || is_pending s.port }

-- the level of the interrupt line
abbrev pub interrupt : HbaState → Bool
interrupt s = s.ips && s.ghc_ie
