-- The transitions of the port's state machine that a call of the controller takes (AHCI 1.3.1, section 5.3). Nothing that the device does moves a register
-- but by one of them.
use Rattle.std.specs.Prelude.{◌≡◌, ℕ, Bool, false, not, ◌&&◌, nat_eq, List, [], ◌∷◌}
use Rattle.word_bits.specs.Places.{bits, has_place}
use Rattle.hba_regs.specs.HbaState.{HbaPort, HbaState}
use Rattle.hba_regs.specs.InterfaceErrors.{unknown_received}
use Rattle.hba_regs.specs.PortStates.{bsy_or_drq_of, cfis_success, dr_overflow, err_fatal, err_of, p_reg_fis_post_to_mem, p_reg_fis_update, p_select_cmd, pio_entry, pio_update, prd_set_intr, reg_fis_entry, reg_fis_unsolicited, sdb_entry, stuck}
use Rattle.hba_regs.specs.Receiving.{after_srst_cleared, after_srst_set, moved}
use Rattle.hba_regs.specs.declared.device_kind.DeviceKind.{DeviceKind}
use Rattle.hba_regs.specs.declared.fatal.Fatal.{Fatal}
use Rattle.hba_regs.specs.declared.soft_reset.SoftReset.{SoftReset}
use Rattle.hba_regs.specs.declared.soft_reset.SoftReset.TheVariants.{Ending}

pub data Transition : Type 0 where
  -- P:Idle to P:SelectCmd and P:FetchCmd
  SelectCmd : (slot : ℕ) → Transition
  -- CFIS:Xmit to CFIS:Success and CFIS:ClearCI
  CfisSuccess : (slot : ℕ) → (c : Bool) → Transition
  -- CFIS:Success to DX:Transmit, which has no data to go on with
  Stuck : (slot : ℕ) → (c : Bool) → Transition
  -- NDR:Accept to RegFIS:Entry, RegFIS:ClearCI and RegFIS:SetIntr, or ERR:FatalTaskfile
  RegFisEntry : (status error : ℕ) → (i : Bool) → (slot : ℕ) → Transition
  -- the same with a FIS that no command asks for; or P:NotRunning to P:RegFisUpdate and P:RegFisPostToMem
  RegFisUnsolicited : Transition
  -- NDR:Accept to SDB:Entry and SDB:SetIntr, or ERR:FatalTaskfile
  SdbEntry : (status error : ℕ) → (i : Bool) → (sactive : ℕ) → Transition
  -- NDR:Accept to PIO:Entry
  PioEntry : (status : ℕ) → Transition
  -- DR:Receive or DX:Transmit to PIO:Update, PIO:ClearCI and PIO:SetIntr, or ERR:FatalTaskfile
  PioUpdate : (e_status error : ℕ) → (i : Bool) → (slot : ℕ) → Transition
  -- DR:Receive, with data for which the list has no room
  DrOverflow : Transition
  -- DR:Receive or DX:Transmit, with the last byte of an entry with I
  PrdSetIntr : Transition
  -- any state to ERR:Fatal
  ErrFatal : Fatal → Transition
  -- P:NotRunning to P:RegFisUpdate, or RegFIS:UpdateSig
  RegFisUpdate : DeviceKind → Transition
  -- P:RegFisPostToMem
  RegFisPostToMem : Transition
  -- CFIS:Success of a control FIS: SRST is set in the device, or cleared
  SrstSet : Transition
  SrstCleared : (slot : ℕ) → Transition
  -- NDR:Accept to the UFIS states
  UnknownFis : Transition

abbrev pub after : Transition → HbaPort → HbaPort
after (SelectCmd slot) p = p_select_cmd slot p
after (CfisSuccess slot c) p = cfis_success slot c p
after (Stuck slot c) p = stuck slot c p
after (RegFisEntry status error i slot) p = reg_fis_entry status error i slot p
after RegFisUnsolicited p = reg_fis_unsolicited p
after (SdbEntry status error i sactive) p = sdb_entry status error i sactive p
after (PioEntry status) p = pio_entry status p
after (PioUpdate e_status error i slot) p = pio_update e_status error i slot p
after DrOverflow p = dr_overflow p
after PrdSetIntr p = prd_set_intr p
after (ErrFatal fatal) p = err_fatal fatal p
after (RegFisUpdate kind) p = p_reg_fis_update kind p
after RegFisPostToMem p = p_reg_fis_post_to_mem p
after SrstSet p = after_srst_set p
after (SrstCleared slot) p = after_srst_cleared p slot p.soft
after UnknownFis p = unknown_received p

-- the registers after some transitions, one after the other
abbrev pub after_all : List Transition → HbaState → HbaState
after_all [] s = s
after_all (t ∷ rest) s = after_all rest (moved s (after t s.port))

-- the registers have gone from one state to another by transitions, and by nothing else
pub record Takes (old new : HbaState) : Type 0 where
  pub transitions : List Transition
  pub reached : new ≡ after_all transitions old

-- a transition answers the command of a slot, for PxCI (section 3.3.14): the device clears BSY, DRQ and ERR for it, C is 1 in its header, or it is
-- the second control FIS of a software reset, which the signature answers
abbrev pub ends_well : (status : ℕ) → Bool
ends_well status = not (err_of status) && not (bsy_or_drq_of status)

abbrev pub ends_reset : SoftReset → ℕ → Bool
ends_reset (Ending s) slot = nat_eq s slot
ends_reset other slot = false

abbrev pub answers_command : Transition → HbaPort → ℕ → Bool
answers_command (CfisSuccess s c) p slot = c && nat_eq s slot
answers_command (Stuck s c) p slot = c && nat_eq s slot
answers_command (RegFisEntry status error i s) p slot = ends_well status && nat_eq s slot
answers_command (PioUpdate e_status error i s) p slot = ends_well e_status && nat_eq s slot
answers_command (RegFisUpdate kind) p slot = ends_reset p.soft slot
answers_command other p slot = false

-- and that of a tag, for PxSACT (section 3.3.13): a Set Device Bits FIS names it
abbrev pub answers_tag : Transition → ℕ → Bool
answers_tag (SdbEntry status error i sactive) tag = has_place (bits sactive) tag
answers_tag other tag = false
