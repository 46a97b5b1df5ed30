-- What PxSCTL.DET and PxCMD.SUD do to the link (AHCI 1.3.1, sections 3.3.7, 3.3.10, 3.3.11, 3.3.12, 10.1.1, 10.4.2 and 10.10).
use Rattle.std.specs.Prelude.{Bool, true, false, if◌then◌else◌}
use Rattle.word_bits.specs.Places.{no_places, union}
use Rattle.hba_regs.specs.HbaState.{HbaPort, link_changed, speed_for}
use Rattle.hba_regs.specs.Interrupts.{raised}
use Rattle.hba_regs.specs.declared.signature.Signature.TheVariants.{Past, Due}
use Rattle.hba_regs.specs.declared.soft_reset.SoftReset.TheVariants.{Off}
use Rattle.hba_regs.specs.declared.link.Link.{Link}
use Rattle.hba_regs.specs.declared.link.Link.TheVariants.{Up, Listening, InReset, Offline}

abbrev pub is_up : Link → Bool
is_up Up = true
is_up link = false

-- the link goes down: no command is left, and the device's status and signature are gone. DIAG.N (bit 16) reports a PhyRdy that is lost
abbrev pub went_down : HbaPort → Link → HbaPort
went_down p link =
    record p {
      link = link;
      serr = raised (is_up p.link) 16 p.serr;
      sact = no_places;
      ci = no_places;
      halted = false;
      sts = 0x7f;
      err = 0;
      sig = 0xffffffff;
      signature = Past;
      soft = Off;
    }

-- the link comes up, at the generation that CAP.ISS and PxSCTL.SPD allow: DIAG.N, DIAG.W and DIAG.X report it, and the device is busy until its signature
-- is taken
abbrev pub came_up : HbaPort → HbaPort
came_up p =
    record p { link = Up; speed = speed_for p.capabilities.iss p.sctl; serr = union p.serr link_changed; sts = 0x80; signature = Due; soft = Off }

-- the port once its link is to be this one; a link that is so already stays
abbrev pub relinked : HbaPort → Link → Link → HbaPort
relinked p Up Up = p
relinked p Listening Listening = p
relinked p InReset InReset = p
relinked p Offline Offline = p
relinked p was Up = came_up p
relinked p was next = went_down p next

-- whether a link goes down there
abbrev pub goes_down : Link → Link → Bool
goes_down Listening Listening = false
goes_down InReset InReset = false
goes_down Offline Offline = false
goes_down was Up = false
goes_down was next = true

-- the port once SUD goes from 0 to 1: COMRESET is sent (section 3.3.7, SUD). A port that listens has its link come up if a device is plugged in,
-- and a link that is up goes down before; a link that DET holds in COMRESET, or has disabled, stays
abbrev pub spun_up : HbaPort → Link → HbaPort
spun_up p Up = came_up (went_down p InReset)
spun_up p Listening = if p.present then came_up p else p
spun_up p InReset = p
spun_up p Offline = p
