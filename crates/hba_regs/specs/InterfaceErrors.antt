-- Errors of the interface, and FISes that the port doesn't know (AHCI 1.3.1, sections 3.3.5 "PxIS", 3.3.12 "PxSERR", 5.3 "Unknown FIS Receive",
-- 6.1.2 "Interface Errors" and 6.2.1 "HBA Aborting a Transfer"; Serial ATA, "SError register").
use Rattle.std.specs.Prelude.{ℕ, Bool, not, ◌&&◌, List, if◌then◌else◌}
use Rattle.word_bits.specs.Places.{with_place}
use Rattle.hba_regs.specs.HbaState.{HbaPort}
use Rattle.hba_regs.specs.Interrupts.{infs, place_of}
use Rattle.hba_regs.specs.Linking.{is_up}
use Rattle.hba_regs.specs.PortStates.{err_wait_for_clear}
use Rattle.hba_regs.specs.declared.fatal.Fatal.TheVariants.{Interface}
use Rattle.hba_regs.specs.declared.interface_error.InterfaceError.{InterfaceError}
use Rattle.hba_regs.specs.declared.interface_error.InterfaceError.TheVariants.{Decode, Crc, Handshake, LinkSequence, TransportState}

-- the bit of PxSERR.DIAG: B (19), C (21), H (22), S (23), T (24)
abbrev pub diag_of : InterfaceError → ℕ
diag_of Decode = 19
diag_of Crc = 21
diag_of Handshake = 22
diag_of LinkSequence = 23
diag_of TransportState = 24

-- the bit of PxSERR.ERR: for data that were not intact T (8) if the interface hasn't recovered them, or I (0) if it has; for a violation of the
-- protocol P (10)
abbrev pub err_bit_of : InterfaceError → (is_fatal : Bool) → ℕ
err_bit_of LinkSequence is_fatal = 10
err_bit_of TransportState is_fatal = 10
err_bit_of error is_fatal = if is_fatal then 8 else 0

-- PxSERR with both bits
abbrev pub reported : InterfaceError → (is_fatal : Bool) → List Bool → List Bool
reported error is_fatal s = with_place (with_place s (diag_of error)) (err_bit_of error is_fatal)

-- an error of the interface under a FIS of a link that is up. A fatal one has stopped a transfer: IFS is set, and no command is processed until ST
-- is cleared. One that isn't fatal sets INFS, and the port goes on
abbrev pub interface_failed : InterfaceError → (is_fatal : Bool) → HbaPort → HbaPort
interface_failed error is_fatal p =
    let q = record p { serr = reported error is_fatal p.serr } in
    if is_up p.link then
    if is_fatal then err_wait_for_clear (record q { is = with_place p.is (place_of Interface) }) else record q { is = with_place p.is infs } else p

-- the port accepts a FIS of the device: the link is up, FRE is 1 (section 3.3.7, FRE), and the port doesn't wait for ST to be cleared
abbrev pub accepts_fis : HbaPort → Bool
accepts_fis p = is_up p.link && p.fre && not (p.st && p.halted)

-- the UFIS states: a FIS of a type that isn't known is accepted and posted at PxFB + 60h. DIAG.F (bit 25), and so PxIS.UFS, is set, and the port
-- goes on
abbrev pub unknown_received : HbaPort → HbaPort
unknown_received p = if accepts_fis p then record p { serr = with_place p.serr 25 } else p
