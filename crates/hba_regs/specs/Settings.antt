-- What software has set in the registers of a port, its commands too (AHCI 1.3.1, section 3.3).
use Rattle.std.specs.Prelude.{ℕ, Bool, List}
use Rattle.hba_regs.specs.CapFields.{CapFields}
use Rattle.hba_regs.specs.HbaState.{HbaPort}

-- PxCLB, PxFB, PxIE, the bits of PxCMD that it writes, PxSCTL, PxSACT and PxCI, of an HBA that can do this
pub record Settings : Type 0 where
  pub capabilities : CapFields
  pub clb : ℕ
  pub fb : ℕ
  pub ie : List Bool
  pub st : Bool
  pub fre : Bool
  pub atapi : Bool
  pub dlae : Bool
  pub sud : Bool
  pub alpe : Bool
  pub asp : Bool
  pub sctl : ℕ
  pub sact : List Bool
  pub ci : List Bool

-- those of a port
abbrev pub settings : HbaPort → Settings
settings p = record {
  capabilities = p.capabilities;
  clb = p.clb;
  fb = p.fb;
  ie = p.ie;
  st = p.st;
  fre = p.fre;
  atapi = p.atapi;
  dlae = p.dlae;
  sud = p.sud;
  alpe = p.alpe;
  asp = p.asp;
  sctl = p.sctl;
  sact = p.sact;
  ci = p.ci;
}
