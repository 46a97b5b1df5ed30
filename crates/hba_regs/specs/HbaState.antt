-- What the registers of an HBA with one port keep (AHCI 1.3.1, sections 3.1 and 3.3). A register of 32 bits with a bit for each
-- slot, interrupt or error is the set of its bits that are 1.
use Rattle.std.specs.Prelude.{◌≡◌, ℕ, ◌/◌, ◌%◌, ◌^◌, ◌<◌, ◌≤◌, Bool, true, false, not, ◌&&◌, ◌||◌, List, Option, Some, None, length, nat_eq, nat_le, nat_lt, if◌then◌else◌}
use Rattle.word_bits.specs.Places.{bits, no_places, has_place, intersection}
use Rattle.hba_regs.specs.CapFields.{CapFields, IsCapable}
use Rattle.hba_regs.specs.declared.link.Link.{Link}
use Rattle.hba_regs.specs.declared.link.Link.TheVariants.{Up, Listening, InReset, Offline}
use Rattle.hba_regs.specs.declared.signature.Signature.{Signature}
use Rattle.hba_regs.specs.declared.signature.Signature.TheVariants.{Past, Due}
use Rattle.hba_regs.specs.declared.soft_reset.SoftReset.{SoftReset}
use Rattle.hba_regs.specs.declared.soft_reset.SoftReset.TheVariants.{Off}

-- the registers of the port (section 3.3)
pub record HbaPort : Type 0 where
  -- what the HBA can do, which CAP shows
  pub capabilities : CapFields
  -- PxCLB and PxFB with their upper halves: addresses of 64 bits
  pub clb : ℕ
  pub fb : ℕ
  -- the bits of PxIS that are kept, and PxIE
  pub is : List Bool
  pub ie : List Bool
  -- PxCMD.ST, PxCMD.FRE, PxCMD.ATAPI and PxCMD.DLAE
  pub st : Bool
  pub fre : Bool
  pub atapi : Bool
  pub dlae : Bool
  -- PxCMD.SUD, PxCMD.ALPE and PxCMD.ASP
  pub sud : Bool
  pub alpe : Bool
  pub asp : Bool
  -- the two bytes of PxTFD: STS and ERR
  pub sts : ℕ
  pub err : ℕ
  -- PxSIG
  pub sig : ℕ
  -- the link, which PxSSTS shows, with its generation while it is active, and PxSCTL
  pub link : Link
  pub speed : ℕ
  -- a device is plugged in, whether its link is up or not
  pub present : Bool
  pub sctl : ℕ
  -- PxSERR
  pub serr : List Bool
  -- PxSACT and PxCI, by slot
  pub sact : List Bool
  pub ci : List Bool
  -- PxCMD.CCS: the slot of the command that is being issued, or was issued last
  pub ccs : ℕ
  -- the slot with the highest priority to issue from: CCS + 1, or 0 after the last slot, or if none was issued since ST was set (section
  -- 3.3.7, CCS)
  pub first : ℕ
  -- after a failed command or a fatal error: no command is processed until ST is cleared (section 6.2.2)
  pub halted : Bool
  -- the FIS that brings the signature
  pub signature : Signature
  -- how far the device is with a software reset
  pub soft : SoftReset

-- the registers of the HBA (section 3.1) and those of its port
pub record HbaState : Type 0 where
  -- GHC.IE
  pub ghc_ie : Bool
  -- IS.IPS of the port
  pub ips : Bool
  pub port : HbaPort

-- PxSERR after the link came up: DIAG.N (bit 16), DIAG.W (bit 18, COMWAKE was detected) and DIAG.X (bit 26)
abbrev pub link_changed : List Bool
link_changed = bits 0x04050000

-- the bits that PxIE has (section 3.3.6): CPDE (31) and DMPE (7) are read-only 0, since there is no cold presence detection and no
-- mechanical presence switch
abbrev pub enables : List Bool
enables = bits 0x7dc0007f

-- the generation at which a link comes up: that to which PxSCTL.SPD (bits 7:4) limits it, or the fastest one of the interface, CAP.ISS, if
-- that is lower. 0 and reserved values limit nothing
abbrev pub speed_for : (iss sctl : ℕ) → ℕ
speed_for iss sctl =
    let limit = sctl / 2 ^ 4 % 2 ^ 4 in
    if nat_le 1 limit && nat_le limit iss then limit else iss

-- a port with these bases that is as after a reset, while its link is up and the signature is due
abbrev pub up_port : CapFields → ℕ → ℕ → HbaPort
up_port c clb fb = record {
  capabilities = c;
  clb = clb;
  fb = fb;
  is = no_places;
  ie = no_places;
  st = false;
  fre = false;
  atapi = false;
  dlae = false;
  sud = true;
  alpe = false;
  asp = false;
  sts = 0x80;
  err = 0;
  sig = 0xffffffff;
  link = Up;
  speed = c.iss;
  present = true;
  sctl = 0;
  serr = link_changed;
  sact = no_places;
  ci = no_places;
  ccs = 0;
  first = 0;
  halted = false;
  signature = Due;
  soft = Off;
}

-- the port after a reset of the HBA, with these bases. With staggered spin-up (CAP.SSS) a device waits for PxCMD.SUD: there is no link, and
-- nothing to report; nor is there without a device
abbrev pub reset_port : (present : Bool) → CapFields → ℕ → ℕ → HbaPort
reset_port present c clb fb =
    let comes = not c.sss && present in
    record (up_port c clb fb) {
      present = present;
      sud = not c.sss;
      sts = if comes then 0x80 else 0x7f;
      link = if comes then Up else Listening;
      serr = if comes then link_changed else no_places;
      signature = if comes then Due else Past;
    }

-- the slot of a number
abbrev pub slot_of : ℕ → Option ℕ
slot_of n = if nat_lt n 32 then Some n else None

-- the HBA after a reset that keeps these bases; what it can do stays, and so does a device that is plugged in, or that there is none
abbrev pub reset_with : (present : Bool) → CapFields → ℕ → ℕ → HbaState
reset_with present c clb fb = record { ghc_ie = false; ips = false; port = reset_port present c clb fb }

-- the HBA after power-on, with a device and without one
abbrev pub powered_with : (present : Bool) → CapFields → HbaState
powered_with present c = reset_with present c 0 0

-- the same with a device
abbrev pub power_on : CapFields → HbaState
power_on c = powered_with true c

-- the link while DET is 0. One that DET held comes up if a device is plugged in and SUD is 1, else the port listens; a link that is up and a
-- port that listens stay (section 10.10.1)
abbrev pub spun_link : (present sud : Bool) → Link → Link
spun_link present sud Up = Up
spun_link present sud Listening = Listening
spun_link present sud link = if present && sud then Up else Listening

-- the link that a value of DET asks for: 0 a link, 1 COMRESET, 4 none; any other value leaves it
abbrev pub asked_link : (det : ℕ) → (present sud : Bool) → Link → Link
asked_link det present sud link =
    if nat_eq det 0 then spun_link present sud link else if nat_eq det 1 then InReset else if nat_eq det 4 then Offline else link

-- the bits of PxIS that are kept: UFS (bit 4), PCS (bit 6) and PRCS (bit 22) are not, since PxSERR has them
pub record IsKept (s : List Bool) : Type 0 where
  pub no_ufs : has_place s 4 ≡ false
  pub no_pcs : has_place s 6 ≡ false
  pub no_prcs : has_place s 22 ≡ false

-- without 64-bit addressing (CAP.S64A) the upper halves of the bases are 0
abbrev pub IsInReach : Bool → (clb fb : ℕ) → Type 0
IsInReach s64a clb fb = s64a ≡ false → (clb < 2 ^ 32) × (fb < 2 ^ 32)

-- no slot from n on is in the set
pub record IsBelow (n : ℕ) (s : List Bool) : Type 0 where
  pub none : (i : ℕ) → n ≤ i → has_place s i ≡ false

-- SUD is 1 without staggered spin-up, ALPE and ASP are 0 without aggressive link power management (CAP.SALP)
pub record IsPowered (c : CapFields) (sud alpe asp : Bool) : Type 0 where
  pub spun : (not c.sss || sud) ≡ sud
  pub saves : (c.salp && alpe) ≡ alpe
  pub slumbers : (c.salp && asp) ≡ asp

-- what the registers of a port keep
pub record IsLawful (p : HbaPort) : Type 0 where
  pub capable : IsCapable p.capabilities
  -- the command list is aligned to 1 KiB, the received FIS area to 256 bytes
  pub clb : p.clb % 2 ^ 10 ≡ 0
  pub fb : p.fb % 2 ^ 8 ≡ 0
  pub reach : IsInReach p.capabilities.s64a p.clb p.fb
  pub is : IsKept p.is
  pub ie : intersection p.ie enables ≡ p.ie
  -- a stopped port has no command
  pub stopped : p.st ≡ false → (p.sact ≡ no_places) × (p.ci ≡ no_places)
  -- no command is in a slot that the command list has not
  pub sact : IsBelow p.capabilities.ncs p.sact
  pub ci : IsBelow p.capabilities.ncs p.ci
  pub power : IsPowered p.capabilities p.sud p.alpe p.asp
  pub sctl : p.sctl < 2 ^ 20
  -- the link is the one that DET asks for
  pub link : asked_link (p.sctl % 2 ^ 4) p.present p.sud p.link ≡ p.link
  -- a link that is up has a device
  pub present : p.link ≡ Up → p.present ≡ true
  pub speed : p.speed ≤ p.capabilities.iss
  pub ccs : p.ccs < 32
  pub first : p.first < p.capabilities.ncs

-- the sets of a port are those of words of 32 bits
pub record HasWords (p : HbaPort) : Type 0 where
  pub is : length p.is ≡ 32
  pub ie : length p.ie ≡ 32
  pub serr : length p.serr ≡ 32
  pub sact : length p.sact ≡ 32
  pub ci : length p.ci ≡ 32
