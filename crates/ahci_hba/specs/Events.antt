-- What becomes of a controller when its link is lost or found, when its device is unplugged or plugged in, and when the interface fails (AHCI
-- 1.3.1, sections 6.1.2 "Interface Errors", 6.2.2 "Software Error Recovery" and chapter 7 "Hot Plug Operation").
use Rattle.std.specs.Prelude.{ℕ, Bool, true, ◌&&◌, List, [], ◌∷◌, Option, None, if◌then◌else◌}
use Rattle.hba_command.specs.Device.{power_cycled, reset_device}
use Rattle.hba_command.specs.Power.{after_reset}
use Rattle.hba_command.specs.declared.power.Power.TheVariants.{Active}
use Rattle.hba_regs.specs.HbaState.{HbaPort}
use Rattle.hba_regs.specs.InterfaceErrors.{accepts_fis, interface_failed}
use Rattle.hba_regs.specs.LinkEvents.{found, lost, plugged, unplugged}
use Rattle.hba_regs.specs.Linking.{is_up}
use Rattle.hba_regs.specs.PortStates.{p_idle_selects}
use Rattle.hba_regs.specs.Receiving.{moved}
use Rattle.hba_regs.specs.declared.consequence.Consequence.TheVariants.{LinkReset, Reset}
use Rattle.hba_regs.specs.declared.interface_error.InterfaceError.{InterfaceError}
use Rattle.ncq_journal.specs.History.{History}
use Rattle.sata_fis.specs.Encoding.{d2h_bytes}
use Rattle.ahci_hba.specs.Delivering.{d2h_fis, received_put}
use Rattle.ahci_hba.specs.Dropping.{emptied, handed_out, is_reset, port_after}
use Rattle.ahci_hba.specs.HbaView.{HbaView, Idle}
use Rattle.ahci_hba.specs.Moving.{answering, ending_of}
use Rattle.ahci_hba.specs.Queueing.{is_idle, only_after}
use Rattle.ahci_hba.specs.declared.last_fis.LastFis.TheVariants.{Bits, Unknown, Unsolicited}

-- the registers of the port are others
abbrev pub with_port : HbaView → HbaPort → HbaView
with_port h p = record h { registers = moved h.registers p }

-- a link that is up is lost: the device drops all commands, and its settings are the defaults, as by a reset of the link, since it has to be reset before
-- it takes another (profile). PxSACT and PxCI stay, and the port is halted if ST is 1
abbrev pub link_lost : HbaView → HbaView
link_lost h =
    let next = with_port h (lost h.registers.port h.registers.port.link) in
    if is_up h.registers.port.link then emptied (record next { port = port_after (is_reset LinkReset h) h.port; power = after_reset h.power; device = reset_device h.device }) else next

-- the journal that the port hands out if it has requests or is halted by a failure
abbrev pub lost_journal : HbaView → Option History
lost_journal h = if is_up h.registers.port.link then handed_out (is_reset LinkReset h) h.port else None

-- the device makes itself known
abbrev pub link_found : HbaView → HbaView
link_found h = with_port h (found h.registers.port)

-- the disk is pulled out, and its power is gone: it drops all commands, and is Active once it is plugged in again, with the default settings and the sectors
-- that it had
abbrev pub device_unplugged : HbaView → HbaView
device_unplugged h =
    emptied (record (with_port h (unplugged h.registers.port)) {
      port = port_after (is_reset Reset h) h.port;
      power = Active;
      device = power_cycled h.device;
    })

abbrev pub unplugged_journal : HbaView → Option History
unplugged_journal h = handed_out (is_reset Reset h) h.port

-- the disk is plugged in
abbrev pub device_plugged : HbaView → HbaView
device_plugged h = with_port h (plugged h.registers.port)

-- the interface fails: a fatal error stops the transfer, so that nothing is read or written any more; after another one the FIS is sent again
abbrev pub failed_at_interface : HbaView → InterfaceError → (is_fatal : Bool) → HbaView
failed_at_interface h error is_fatal =
    let next = with_port h (interface_failed error is_fatal h.registers.port) in
    if is_fatal && is_up h.registers.port.link then record next { dma = Idle } else next

-- a FIS that no command asks for can be received: the port accepts it, and nothing is read or written just now
abbrev pub may_receive : HbaView → Bool
may_receive h = is_idle h.dma && accepts_fis h.registers.port

-- a D2H Register FIS, only if the device isn't busy with a command (BSY and DRQ are 0)
abbrev pub may_receive_register : HbaView → Bool
may_receive_register h = may_receive h && p_idle_selects h.registers.port

-- one of a type that isn't known is posted at 60h of the received FIS area (section 4.2.1), and then reported
abbrev pub receiving_unknown : HbaView → List ℕ → HbaView
receiving_unknown h fis = answering h (only_after (received_put h.registers 0x60 fis)) (ending_of true Unknown)

-- a Set Device Bits FIS with I that names no tag (Serial ATA, "Set Device Bits FIS - Device to Host"): the type A1h; I (bit 6 of byte 1), with N, bit
-- 7, if it is a notification; status 40h and error 00h. N is without effect where CAP.SSNTF is 0 (AHCI 1.3.1, section 3.1.1)
abbrev pub bits_fis : (notification : Bool) → List ℕ
bits_fis notification = 0xA1 ∷ (if notification then 0xC0 else 0x40) ∷ 0x40 ∷ 0x00 ∷ 0x00 ∷ 0x00 ∷ 0x00 ∷ 0x00 ∷ []

abbrev pub receiving_bits : HbaView → (notification : Bool) → HbaView
receiving_bits h notification = answering h (only_after (received_put h.registers 0x58 (bits_fis notification))) (ending_of true (Bits 0x40 0x00 0))

-- a D2H Register FIS with I, status 50h and error 00h
abbrev pub receiving_register : HbaView → HbaView
receiving_register h = answering h (only_after (received_put h.registers 0x40 (d2h_bytes (d2h_fis 0x50 0 0 0)))) (ending_of true Unsolicited)
