-- What a word that is written to each register does (AHCI 1.3.1, sections 3.1 and 3.3).
use Rattle.std.specs.Prelude.{ℕ, ◌+◌, ◌*◌, ◌/◌, ◌%◌, ◌^◌, Bool, true, not, ◌&&◌, ◌||◌, List, Option, Some, None, bit_and, if◌then◌else◌}
use Rattle.word_bits.specs.Places.{bits, has_place, no_places, union, intersection, minus, only_below}
use Rattle.hba_regs.specs.HbaState.{HbaPort, HbaState, asked_link, enables, reset_with}
use Rattle.hba_regs.specs.Interrupts.{settled}
use Rattle.hba_regs.specs.Linking.{goes_down, is_up, relinked, spun_up}
use Rattle.hba_regs.specs.RegisterTable.{register_at}
use Rattle.hba_regs.specs.declared.consequence.Consequence.{Consequence}
use Rattle.hba_regs.specs.declared.consequence.Consequence.TheVariants.{Nothing, Stopped, LinkReset, Reset}
use Rattle.hba_regs.specs.declared.soft_reset.SoftReset.{SoftReset}
use Rattle.hba_regs.specs.declared.soft_reset.SoftReset.TheVariants.{Off, Ending}
use Rattle.hba_regs.specs.declared.register.Register.{Register}
use Rattle.hba_regs.specs.declared.register.Register.TheVariants.{Ghc, Is, PxClb, PxClbu, PxFb, PxFbu, PxIs, PxIe, PxCmd, PxSctl, PxSerr, PxSact, PxCi}

-- the bits of an address from bit i on; those below it read 0
abbrev pub aligned : ℕ → ℕ → ℕ
aligned i value = value / 2 ^ i * 2 ^ i

-- a base with another lower word, with another upper word
abbrev pub with_lower : ℕ → ℕ → ℕ
with_lower base value = base / 2 ^ 32 * 2 ^ 32 + value

abbrev pub with_upper : ℕ → ℕ → ℕ
with_upper base value = value * 2 ^ 32 + base % 2 ^ 32

-- GHC: HR (bit 0) resets the HBA, whose bases stay (section 10.4.3), and so does the device that is plugged in; else IE (bit 1) is taken
abbrev pub with_ghc : HbaState → ℕ → HbaState
with_ghc s value =
    if has_place (bits value) 0 then reset_with s.port.present s.port.capabilities s.port.clb s.port.fb else record s { ghc_ie = has_place (bits value) 1 }

-- PxCLB and PxCLBU stay while ST is 1, PxFB and PxFBU while FRE is 1
abbrev pub with_clb : HbaPort → ℕ → HbaPort
with_clb p base = if p.st then p else record p { clb = base }

abbrev pub with_fb : HbaPort → ℕ → HbaPort
with_fb p base = if p.fre then p else record p { fb = base }

-- PxSACT or PxCI after a write to PxCMD: if ST goes from 1 to 0, no command is left
abbrev pub remaining : Bool → List Bool → List Bool
remaining stops s = if stops then no_places else s

-- the device's software reset once ST goes from 1 to 0: the command that its signature would end is gone
abbrev pub continued : Bool → SoftReset → SoftReset
continued true (Ending slot) = Off
continued stops other = other

-- PxCMD with these bits: CLO clears BSY and DRQ, and a port stays halted for as long as ST stays 1
abbrev pub commanded : HbaPort → Bool → Bool → Bool → Bool → Bool → HbaPort
commanded p st fre clo atapi dlae =
    let stops = p.st && not st in
    record p {
      st = st;
      fre = fre;
      atapi = atapi;
      dlae = dlae;
      sts = if clo then bit_and p.sts 0x77 else p.sts;
      sact = remaining stops p.sact;
      ci = remaining stops p.ci;
      ccs = if stops then 0 else p.ccs;
      first = if stops then 0 else p.first;
      halted = p.halted && p.st && st;
      soft = continued stops p.soft;
    }

-- PxCMD with these bits: SUD is read-only 1 unless CAP.SSS is 1, ALPE and ASP are read-only 0 unless CAP.SALP is. SUD that goes from 0 to 1
-- spins the device up
abbrev pub powered : HbaPort → Bool → Bool → Bool → HbaPort
powered p sud alpe asp =
    let next = record p { sud = not p.capabilities.sss || sud; alpe = p.capabilities.salp && alpe; asp = p.capabilities.salp && asp } in
    if not p.sud && next.sud then spun_up next next.link else next

-- ST, SUD, CLO, FRE, ATAPI, DLAE, ALPE and ASP are bits 0, 1, 3, 4, 24, 25, 26 and 27; CLO has no effect unless CAP.SCLO is 1
abbrev pub commanded_by : HbaPort → ℕ → HbaPort
commanded_by p value =
    commanded p (has_place (bits value) 0) (has_place (bits value) 4) (p.capabilities.sclo && has_place (bits value) 3)
    (has_place (bits value) 24) (has_place (bits value) 25)

abbrev pub powered_by : HbaPort → ℕ → HbaPort
powered_by p value = powered p (has_place (bits value) 1) (has_place (bits value) 26) (has_place (bits value) 27)

abbrev pub with_command : HbaPort → ℕ → HbaPort
with_command p value = powered_by (commanded_by p value) value

-- whether a value of PxCMD sets SUD from 0 to 1
abbrev pub spins_up : HbaPort → ℕ → Bool
spins_up p value = not p.sud && (not p.capabilities.sss || has_place (bits value) 1)

-- PxSCTL: bits 19:0 are kept, of which AHCI uses 11:0, and DET (bits 3:0) moves the link
abbrev pub with_control : HbaPort → ℕ → HbaPort
with_control p value = relinked (record p { sctl = value % 2 ^ 20 }) p.link (asked_link (value % 2 ^ 4) p.present p.sud p.link)

-- PxSACT and PxCI take commands while ST is 1, in the slots that the command list has: the standard forbids the others (section 5.5.1), which
-- stay 0 (profile)
abbrev pub with_sact : HbaPort → ℕ → HbaPort
with_sact p value = if p.st then record p { sact = union p.sact (only_below p.capabilities.ncs (bits value)) } else p

abbrev pub with_ci : HbaPort → ℕ → HbaPort
with_ci p value = if p.st then record p { ci = union p.ci (only_below p.capabilities.ncs (bits value)) } else p

-- PxCLBU and PxFBU are read-only 0 unless CAP.S64A is 1
abbrev pub with_clbu : HbaPort → ℕ → HbaPort
with_clbu p value = if p.capabilities.s64a then with_clb p (with_upper p.clb value) else p

abbrev pub with_fbu : HbaPort → ℕ → HbaPort
with_fbu p value = if p.capabilities.s64a then with_fb p (with_upper p.fb value) else p

-- what a write to each register of the port changes; a read-only register stays as it is
abbrev pub port_changed : HbaPort → ℕ → Register → HbaPort
port_changed p value PxClb = with_clb p (with_lower p.clb (aligned 10 value))
port_changed p value PxClbu = with_clbu p value
port_changed p value PxFb = with_fb p (with_lower p.fb (aligned 8 value))
port_changed p value PxFbu = with_fbu p value
-- writing 1 clears
port_changed p value PxIs = record p { is = minus p.is (bits value) }
port_changed p value PxIe = record p { ie = intersection (bits value) enables }
port_changed p value PxCmd = with_command p value
port_changed p value PxSctl = with_control p value
-- writing 1 clears
port_changed p value PxSerr = record p { serr = minus p.serr (bits value) }
port_changed p value PxSact = with_sact p value
port_changed p value PxCi = with_ci p value
-- PxTFD, PxSIG and PxSSTS, and the registers of the HBA
port_changed p value register = p

-- what a write to each register changes; CAP, PI and VS are read-only
abbrev pub changed : HbaState → ℕ → Register → HbaState
changed s value Ghc = with_ghc s value
-- writing 1 clears
changed s value Is = record s { ips = s.ips && not (has_place (bits value) 0) }
changed s value register = record s { port = port_changed s.port value register }

-- what a write means for the commands and the device: ST is cleared, or DET takes the link down, or SUD resets a link that is up
abbrev pub port_consequence : HbaPort → ℕ → Register → Consequence
port_consequence p value PxCmd =
    if spins_up p value && is_up p.link then LinkReset else if p.st && not (has_place (bits value) 0) then Stopped else Nothing
port_consequence p value PxSctl = if goes_down p.link (asked_link (value % 2 ^ 4) p.present p.sud p.link) then LinkReset else Nothing
port_consequence p value register = Nothing

abbrev pub consequence_of : HbaState → ℕ → Register → Consequence
consequence_of s value Ghc = if has_place (bits value) 0 then Reset else Nothing
consequence_of s value register = port_consequence s.port value register

-- the consequence of two writes in turn
abbrev pub both : Consequence → Consequence → Consequence
both Nothing next = next
both consequence next = consequence

-- what a write leaves: the state, and its consequence
pub record Written : Type 0 where
  pub state : HbaState
  pub consequence : Consequence

-- a word that is written to a register
abbrev pub written : HbaState → ℕ → Register → Written
written s value register = record { state = settled (changed s value register); consequence = consequence_of s value register }

-- a word at an offset that is a multiple of 4; where no register is, it changes nothing
abbrev pub written_at : HbaState → ℕ → Option Register → Written
written_at s value (Some register) = written s value register
written_at s value None = record { state = s; consequence = Nothing }

abbrev pub word_written : HbaState → ℕ → ℕ → Written
word_written s off value = written_at s value (register_at off)
