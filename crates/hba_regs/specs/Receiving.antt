-- When the port takes the FIS of the device's signature, and the device's side of a software reset (AHCI 1.3.1, sections 3.3.7, FRE, 5.3.2 and
-- 10.4.1). What FISes do to the registers is in PortStates.
use Rattle.std.specs.Prelude.{ℕ, Bool, false, not, ◌&&◌, ◌||◌}
use Rattle.hba_regs.specs.HbaState.{HbaPort, HbaState}
use Rattle.hba_regs.specs.Interrupts.{settled}
use Rattle.hba_regs.specs.PortStates.{p_reg_fis_post_to_mem, p_reg_fis_update}
use Rattle.hba_regs.specs.declared.device_kind.DeviceKind.{DeviceKind}
use Rattle.hba_regs.specs.declared.signature.Signature.{Signature}
use Rattle.hba_regs.specs.declared.signature.Signature.TheVariants.{Past, Due, Unposted}
use Rattle.hba_regs.specs.declared.soft_reset.SoftReset.{SoftReset}
use Rattle.hba_regs.specs.declared.soft_reset.SoftReset.TheVariants.{Held, Ending}

-- the FIS that brings the signature can be taken: in P:NotRunning whether FRE is 1 or not; in P:Idle while FRE is 1, as any other FIS, and
-- not after an error. DIAG.X does not hold it back (a departure: P:NotRunning wants DIAG.X 0, but drivers that run on all controllers read
-- PxTFD before they clear it)
abbrev pub takes_signature : HbaPort → Bool
takes_signature p = not p.st || (p.fre && not p.halted)

-- it is due and can be taken, or it was taken while FRE was 0, and can be posted now
abbrev pub signature_moves : HbaPort → Signature → Bool
signature_moves p Past = false
signature_moves p Due = takes_signature p
signature_moves p (Unposted kind) = p.fre

-- the FIS of the signature of a device, which may have been taken before
abbrev pub signed : DeviceKind → HbaPort → Signature → HbaPort
signed kind p Due = p_reg_fis_update kind p
signed kind p other = p_reg_fis_post_to_mem p

-- the device's side of a software reset (Serial ATA, "Software reset"): a control FIS with SRST 1 holds the device in it, and the next one
-- with SRST 0 ends it, after which the device sends its signature; with SRST 0 alone nothing happens
abbrev pub after_srst_set : HbaPort → HbaPort
after_srst_set p = record p { signature = Past; soft = Held }

abbrev pub after_srst_cleared : HbaPort → ℕ → SoftReset → HbaPort
after_srst_cleared p slot Held = record p { signature = Due; soft = Ending slot }
after_srst_cleared p slot other = p

-- the HBA once its port has moved: every path of the state machine ends with IS.IPS (GenIntr)
abbrev pub moved : HbaState → HbaPort → HbaState
moved s p = settled (record s { port = p })
