-- The port's state machine (AHCI 1.3.1, section 5.3 "HBA Port State Machine"): a definition for each state that moves the registers, by
-- the state's own name, and in it the rows of its table in their order, each of which goes on with the next state. A path ends in a state
-- in which the port waits: P:NotRunning, P:Idle, ERR:WaitForClear, or one of the link's. What a driver can't see is left out: docs/LAYOUTS.md has
-- the table of all states.
use Rattle.std.specs.Prelude.{ℕ, ◌+◌, ◌%◌, Bool, true, not, ◌||◌, List, bit_and, bit_or, if◌then◌else◌}
use Rattle.word_bits.specs.Places.{bits, has_place, with_place, without_place, minus}
use Rattle.hba_regs.specs.HbaState.{HbaPort}
use Rattle.hba_regs.specs.Interrupts.{dhrs, dps, pss, sdbs, ofs, tfes, place_of, raised}
use Rattle.hba_regs.specs.Signatures.{signature_of, signed_status}
use Rattle.hba_regs.specs.declared.device_kind.DeviceKind.{DeviceKind}
use Rattle.hba_regs.specs.declared.fatal.Fatal.{Fatal}
use Rattle.hba_regs.specs.declared.signature.Signature.TheVariants.{Past, Unposted}
use Rattle.hba_regs.specs.declared.soft_reset.SoftReset.{SoftReset}
use Rattle.hba_regs.specs.declared.soft_reset.SoftReset.TheVariants.{Off, Ending}

-- ---- bits of a status

abbrev pub err_of : ℕ → Bool
err_of status = has_place (bits status) 0

abbrev pub bsy_or_drq_of : ℕ → Bool
bsy_or_drq_of status = has_place (bits status) 7 || has_place (bits status) 3

-- ---- ERR, "Error Recovery"

-- ERR:FatalTaskfile: TFES is set; then ERR:WaitForClear
abbrev pub err_fatal_taskfile : HbaPort → HbaPort
err_fatal_taskfile p = record p { is = with_place p.is tfes; halted = true }

-- ERR:Fatal: the error's bit of PxIS is set; then ERR:WaitForClear
abbrev pub err_fatal : Fatal → HbaPort → HbaPort
err_fatal fatal p = record p { is = with_place p.is (place_of fatal); halted = true }

-- ERR:WaitForClear: a port with ST 1 processes no command until ST is cleared; with ST 0 there is nothing to wait for
abbrev pub err_wait_for_clear : HbaPort → HbaPort
err_wait_for_clear p = record p { halted = p.halted || p.st }

-- ---- P, "Port Idle"

-- P:Idle: a command is selected while BSY and DRQ are 0
abbrev pub p_idle_selects : HbaPort → Bool
p_idle_selects p = not (bsy_or_drq_of p.sts)

-- P:SelectCmd: pIssueSlot and CCS are the slot; pSlotLoc is, so that the search for the next one begins behind it (section 3.3.7, CCS),
-- from 0 after the last one. Then P:FetchCmd
abbrev pub p_select_cmd : ℕ → HbaPort → HbaPort
p_select_cmd slot p = record p { ccs = slot; first = (slot + 1) % p.capabilities.ncs }

-- P:RegFisUpdate, and RegFIS:UpdateSig while ST is 1: PxTFD and PxSIG are those of the first D2H Register FIS after a reset, which has I 0, of a device;
-- pUpdateSig is 0. While FRE is 1 it is posted (P:RegFisPostToMem), or else later. After a software reset, the command of its second control
-- FIS ends (RegFIS:ClearCI)
abbrev pub ended_by_signature : SoftReset → List Bool → List Bool
ended_by_signature (Ending slot) s = without_place s slot
ended_by_signature other s = s

abbrev pub p_reg_fis_update : DeviceKind → HbaPort → HbaPort
p_reg_fis_update kind p =
    record p {
      sts = signed_status kind;
      err = 0x01;
      sig = signature_of kind;
      ci = ended_by_signature p.soft p.ci;
      signature = if p.fre then Past else Unposted kind;
      soft = Off;
    }

-- P:RegFisPostToMem
abbrev pub p_reg_fis_post_to_mem : HbaPort → HbaPort
p_reg_fis_post_to_mem p = record p { signature = Past }

-- ---- CFIS, "Command Transfer"

-- CFIS:ClearCI: BSY and the slot's bit of PxCI are cleared; pIssueSlot is none
abbrev pub cfis_clear_ci : ℕ → HbaPort → HbaPort
cfis_clear_ci slot p = record p { sts = bit_and p.sts 0x7f; ci = without_place p.ci slot }

-- CFIS:Success, after CFIS:Xmit: C is 1 in the header; or the device is busy with the command
abbrev pub cfis_success : ℕ → (c : Bool) → HbaPort → HbaPort
cfis_success slot c p = if c then cfis_clear_ci slot p else record p { sts = bit_or p.sts 0x80 }

-- the same of a write whose list names fewer bytes than it moves: the port runs out of data in DX:Transmit. Section 6.1.5 calls that an
-- overflow of the command list too, and has no text for what registers show. It is stuck until ST is cleared or the link is reset (profile)
abbrev pub stuck : ℕ → (c : Bool) → HbaPort → HbaPort
stuck slot c p = record (cfis_success slot c p) { halted = true }

-- ---- RegFIS, "D2H Register FIS Receive"

-- RegFIS:SetIntr: I is 1, or not; RegFIS:SetIS sets DHRS
abbrev pub reg_fis_set_intr : (i : Bool) → HbaPort → HbaPort
reg_fis_set_intr i p = record p { is = raised i dhrs p.is }

-- RegFIS:ClearCI: the bit of pIssueSlot is cleared
abbrev pub reg_fis_clear_ci : (i : Bool) → (slot : ℕ) → HbaPort → HbaPort
reg_fis_clear_ci i slot p = reg_fis_set_intr i (record p { ci = without_place p.ci slot })

-- RegFIS:Entry: ERR is 1; BSY and DRQ are 0; or neither. With ERR, the table goes to ERR:FatalTaskfile at once: that RegFIS:SetIntr is on
-- the way is a departure (docs/DECISIONS.md)
abbrev pub reg_fis_entry : (status error : ℕ) → (i : Bool) → (slot : ℕ) → HbaPort → HbaPort
reg_fis_entry status error i slot p =
    let q = record p { sts = status; err = error } in
    if err_of status then err_fatal_taskfile (reg_fis_set_intr i q)
    else if bsy_or_drq_of status then reg_fis_set_intr i q
    else reg_fis_clear_ci i slot q

-- a FIS that no command asks for, with I, status 50h and error 00h. While ST is 1, RegFIS:Entry: pIssueSlot is none, so that RegFIS:ClearCI leaves PxCI.
-- While ST is 0, P:NotRunning to P:RegFisUpdate and P:RegFisPostToMem (section 5.3.2), from which the port goes back to P:NotRunning: RegFIS:SetIntr is
-- not on the way, whatever I is
abbrev pub reg_fis_unsolicited : HbaPort → HbaPort
reg_fis_unsolicited p =
    let q = record p { sts = 0x50; err = 0x00 } in
    if p.st then reg_fis_set_intr true q else q

-- ---- SDB, "Set Device Bits FIS Receive"

-- SDB:SetIntr: I is 1, or not; SDB:SetIS sets SDBS
abbrev pub sdb_set_intr : (i : Bool) → HbaPort → HbaPort
sdb_set_intr i p = record p { is = raised i sdbs p.is }

-- SDB:Entry: the status but for BSY and DRQ, the error, and SActive are taken; ERR is 1, or not. With ERR a departure, as at RegFIS:Entry
abbrev pub sdb_entry : (status error : ℕ) → (i : Bool) → (sactive : ℕ) → HbaPort → HbaPort
sdb_entry status error i sactive p =
    let q = record p { sts = bit_or (bit_and p.sts 0x88) (bit_and status 0x77); err = error; sact = minus p.sact (bits sactive) } in
    if err_of status then err_fatal_taskfile (sdb_set_intr i q) else sdb_set_intr i q

-- ---- PIO, "PIO Setup Receive"

-- PIO:Entry: the status is taken. The error, E_Status and I are kept as pPioErr, pPioESts and pPioIbit, and the data move (DR:Receive, DX:Transmit),
-- with ERR in the status too
abbrev pub pio_entry : (status : ℕ) → HbaPort → HbaPort
pio_entry status p = record p { sts = status }

-- PIO:SetIntr: pPioIbit is 1, or not; PIO:SetIS sets PSS
abbrev pub pio_set_intr : (i : Bool) → HbaPort → HbaPort
pio_set_intr i p = record p { is = raised i pss p.is }

-- PIO:ClearCI: the bit of pIssueSlot is cleared
abbrev pub pio_clear_ci : (i : Bool) → (slot : ℕ) → HbaPort → HbaPort
pio_clear_ci i slot p = pio_set_intr i (record p { ci = without_place p.ci slot })

-- PIO:Update, once the data have moved: the status is pPioESts, and the error pPioErr; ERR is 1, BSY and DRQ are 0, or neither. PSS is set with ERR
-- too: the table goes to ERR:FatalTaskfile at once, but the text of the bit sets it whether the data moved without error or not (section 3.3.5)
abbrev pub pio_update : (e_status error : ℕ) → (i : Bool) → (slot : ℕ) → HbaPort → HbaPort
pio_update e_status error i slot p =
    let q = record p { sts = e_status; err = error } in
    if err_of e_status then err_fatal_taskfile (pio_set_intr i q)
    else if bsy_or_drq_of e_status then pio_set_intr i q
    else pio_clear_ci i slot q

-- ---- DR, "Data Receive"

-- the list has no room for the data: OFS is set, what is left of the data is dropped, and the port goes on, since OFS is no fatal error (sections
-- 3.3.5, OFS, 6.1.5 and 6.2.1)
abbrev pub dr_overflow : HbaPort → HbaPort
dr_overflow p = record p { is = with_place p.is ofs }

-- ---- DR and DX, "Data Receive" and "Data Transmit"

-- SetIntr of an entry of the PRDT: all of its data have moved, and its I is 1; SetIS and GenIntr follow. DPS is set, and nothing else changes (sections
-- 3.3.5, DPS, 4.2.3.3 and 5.4.2)
abbrev pub prd_set_intr : HbaPort → HbaPort
prd_set_intr p = record p { is = with_place p.is dps }
