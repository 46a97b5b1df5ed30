-- What contracts see of the fields of a port and of an HBA.
use Rattle.std.specs.Prelude.{◌≡◌, true}
use Rattle.word_bits.specs.Places.{bits}
use Rattle.hba_regs.specs.HbaState.{HbaPort, HbaState, IsLawful}
use Rattle.hba_regs.specs.Interrupts.{is_pending}
use Rattle.hba_regs.specs.declared.port.Port.TheInside as of_port
use Rattle.hba_regs.specs.declared.hba_regs.HbaRegs.TheInside as of_hba

-- the registers of a port that the words stand for
abbrev pub port_of : of_port.Inside → HbaPort
port_of a = record {
  capabilities = a.capabilities;
  clb = a.clb;
  fb = a.fb;
  is = bits a.is;
  ie = bits a.ie;
  st = a.started;
  fre = a.receiving;
  atapi = a.atapi;
  dlae = a.drives_led;
  sud = a.spun_up;
  alpe = a.saves_power;
  asp = a.slumbers;
  sts = a.status;
  err = a.error;
  sig = a.signature;
  link = a.link;
  speed = a.speed;
  present = a.present;
  sctl = a.control;
  serr = bits a.serr;
  sact = bits a.sact;
  ci = bits a.ci;
  ccs = a.current;
  first = a.first;
  halted = a.halted;
  signature = a.first_fis;
  soft = a.soft;
}

-- they are lawful
abbrev pub PortIsLawful : of_port.Inside → Type 0
PortIsLawful a = IsLawful (port_of a)

-- the registers of the HBA
abbrev pub hba_of : of_hba.Inside → HbaState
hba_of a = record { ghc_ie = a.enabled; ips = a.pending; port = a.port }

-- IS.IPS is 1 while an interrupt of the port is pending
abbrev pub Reports : of_hba.Inside → Type 0
Reports a = is_pending a.port ≡ true → a.pending ≡ true
