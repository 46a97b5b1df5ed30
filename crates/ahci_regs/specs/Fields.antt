-- What contracts see of the fields of a `PortRegs`.
use Rattle.word_bits.specs.Places.{bits}
use Rattle.ahci_regs.specs.PortState.{PortState, IsLawful}
use Rattle.ahci_regs.specs.declared.port_regs.PortRegs.TheInside.{Inside}

-- the state that the words stand for
abbrev pub state_of : Inside → PortState
state_of a = record {
  depth = a.depth;
  sact = bits a.sact;
  ci = bits a.ci;
  is = bits a.is.0;
  ie = bits a.ie.0;
  st = a.started;
  fre = a.receiving;
  sts = a.status.0;
  err = a.error;
  clb = a.clb;
  fb = a.fb;
}

-- it is lawful
abbrev pub StandsForLawful : Inside → Type 0
StandsForLawful a = IsLawful (state_of a)
