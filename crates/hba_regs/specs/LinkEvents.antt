-- What becomes of the port when its link is lost or found, and when its device is unplugged or plugged in (AHCI 1.3.1, sections 3.3.8, 3.3.10
-- "PxSSTS", 3.3.12 "PxSERR", 6.1.2 "Interface Errors", 6.2.2 "Software Error Recovery" and chapter 7 "Hot Plug Operation").
use Rattle.std.specs.Prelude.{true, false, if◌then◌else◌}
use Rattle.word_bits.specs.Places.{with_place}
use Rattle.hba_regs.specs.HbaState.{HbaPort}
use Rattle.hba_regs.specs.Linking.{came_up}
use Rattle.hba_regs.specs.PortStates.{err_wait_for_clear}
use Rattle.hba_regs.specs.declared.link.Link.{Link}
use Rattle.hba_regs.specs.declared.link.Link.TheVariants.{Up, Listening}
use Rattle.hba_regs.specs.declared.signature.Signature.TheVariants.{Past}
use Rattle.hba_regs.specs.declared.soft_reset.SoftReset.TheVariants.{Off}

-- PhyRdy goes away: DET, SPD and IPM of PxSSTS are 0. DIAG.N (bit 16), and so PxIS.PRCS, reports it. Commands stay in PxSACT and PxCI until
-- software drops them. A port with ST 1 processes no command until ST is cleared, since those in its list aren't for the device that is found next
-- (section 7.4) (profile). PxTFD, PxSIG and the signature that was due are as after COMRESET (section 10.4.2) (profile). A link that isn't up can't
-- be lost
abbrev pub lost : HbaPort → Link → HbaPort
lost p Up =
    record (err_wait_for_clear p) {
      link = Listening;
      serr = with_place p.serr 16;
      sts = 0x7f;
      err = 0;
      sig = 0xffffffff;
      signature = Past;
      soft = Off;
    }
lost p link = p

-- COMINIT is received, which the device sends by itself (section 6.2.2.3, "Recovery of Unsolicited COMINIT"). If the port listens, the link comes
-- up; with SUD 0 the port only reports the device, by DIAG.X (bit 26) and so PxIS.PCS (section 10.10.1). While DET holds the link in COMRESET, or has
-- disabled it, nothing is received
abbrev pub cominit : HbaPort → Link → HbaPort
cominit p Listening = if p.sud then came_up p else record p { serr = with_place p.serr 26 }
cominit p link = p

-- a device that is plugged in makes itself known again
abbrev pub found : HbaPort → HbaPort
found p = if p.present then cominit p p.link else p

-- the device is gone: a link that was up is lost, and nothing answers until one is plugged in
abbrev pub unplugged : HbaPort → HbaPort
unplugged p = record (lost p p.link) { present = false }

-- a device is plugged in, and makes itself known
abbrev pub plugged : HbaPort → HbaPort
plugged p = cominit (record p { present = true }) p.link
