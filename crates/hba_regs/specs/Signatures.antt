-- The signatures of devices (AHCI 1.3.1, section 3.3.9 "PxSIG"; Serial ATA, "Signature"; ACS-3, "Device signatures"). PxSIG has LBA 23:0 of the FIS
-- in bits 31:8, and its count in bits 7:0.
use Rattle.std.specs.Prelude.{ℕ}
use Rattle.hba_regs.specs.declared.device_kind.DeviceKind.{DeviceKind}
use Rattle.hba_regs.specs.declared.device_kind.DeviceKind.TheVariants.{Disk, Packet, EnclosureBridge, PortMultiplier}

abbrev pub signature_of : DeviceKind → ℕ
signature_of Disk = 0x00000101
signature_of Packet = 0xeb140101
signature_of EnclosureBridge = 0xc33c0101
signature_of PortMultiplier = 0x96690101

-- the status in that FIS: DRDY isn't set by a device that takes commands by PACKET; bit 4 is the command's own, and 1 here (profile)
abbrev pub signed_status : DeviceKind → ℕ
signed_status Packet = 0x00
signed_status kind = 0x50
