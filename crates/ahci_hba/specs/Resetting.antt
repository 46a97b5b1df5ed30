-- What the device does by itself or when it is reset by software (AHCI 1.3.1, sections 10.1 and 10.4.1; Serial ATA, "Signature").
use Rattle.std.specs.Prelude.{ℕ, ◌/◌, ◌%◌, ◌^◌, Bool, true, false, ◌&&◌, Option, None, Some, IsSomeAnd, ◌≡◌, slice_set, if◌then◌else◌}
use Rattle.sata_fis.specs.Encoding.{d2h_bytes}
use Rattle.sata_fis.specs.Fields.{D2hFields}
use Rattle.hba_command.specs.Action.{action_of}
use Rattle.hba_command.specs.Device.{after_signature, after_srst}
use Rattle.hba_command.specs.Power.{after_reset}
use Rattle.hba_command.specs.declared.action.Action.{Action}
use Rattle.hba_command.specs.declared.action.Action.TheVariants.{Control}
use Rattle.hba_regs.specs.HbaState.{HbaPort}
use Rattle.hba_regs.specs.Signatures.{signature_of, signed_status}
use Rattle.hba_regs.specs.Receiving.{after_srst_cleared, after_srst_set, moved, signature_moves}
use Rattle.hba_regs.specs.declared.device_kind.DeviceKind.{DeviceKind}
use Rattle.hba_regs.specs.declared.signature.Signature.{Signature}
use Rattle.hba_regs.specs.declared.signature.Signature.TheVariants.{Due, Unposted}
use Rattle.hba_regs.specs.declared.soft_reset.SoftReset.{SoftReset}
use Rattle.hba_regs.specs.declared.soft_reset.SoftReset.TheVariants.{Held}
use Rattle.ncq_journal.specs.History.{History}
use Rattle.hba_regs.specs.declared.consequence.Consequence.TheVariants.{LinkReset}
use Rattle.ahci_hba.specs.Delivering.{received_put}
use Rattle.ahci_hba.specs.Dropping.{emptied, handed_out, is_reset, port_after}
use Rattle.ahci_hba.specs.HbaView.{CommandView, Fetched, HbaView}
use Rattle.ahci_hba.specs.Keeping.{keeping}
use Rattle.ahci_hba.specs.Moving.{answering, ending_of}
use Rattle.ahci_hba.specs.Queueing.{command_at, is_idle, is_off, only_after}
use Rattle.ahci_hba.specs.declared.last_fis.LastFis.TheVariants.{Signature as Sign}

-- the FIS with the signature of a device: error 01h, which says that it has passed its diagnostic, and no I
abbrev pub signature : DeviceKind → D2hFields
signature kind =
    record { i = false; status = signed_status kind; error = 0x01; lba = signature_of kind / 2 ^ 8; device = 0; count = signature_of kind % 2 ^ 8 }

-- the device whose signature is sent: one that was taken before is posted as it was
abbrev pub sent_by : Signature → DeviceKind → DeviceKind
sent_by (Unposted was) kind = was
sent_by other kind = kind

-- its FIS can be taken, or posted
abbrev pub may_sign : HbaView → Bool
may_sign h = is_idle h.dma && signature_moves h.registers.port h.registers.port.signature

-- it is taken, and posted if FRE is 1, from a device of some kind
abbrev pub signing_for : HbaView → DeviceKind → HbaView
signing_for h kind = answering h (only_after (received_put h.registers 0x40 (d2h_bytes (signature kind)))) (ending_of true (Sign kind))

-- it is sent now, because of a COMRESET: not because of a software reset, which its second control FIS ends
abbrev pub is_due : Signature → Bool
is_due Due = true
is_due other = false

abbrev pub comes_by_comreset : HbaPort → Bool
comes_by_comreset p = is_due p.signature && is_off p.soft

abbrev pub signing : HbaView → DeviceKind → HbaView
signing h kind = keeping (signing_for h (sent_by h.registers.port.signature kind)) (after_signature (comes_by_comreset h.registers.port) h.device)

-- what a slot's control FIS says of SRST
abbrev pub control_of : Action → Option Bool
control_of (Control reset) = Some reset
control_of other = None

abbrev pub control_in : Option CommandView → Option Bool
control_in (Some (Fetched t list bytes)) = control_of (action_of t)
control_in other = None

-- SRST is set: the device is held in its reset, and all commands are dropped, as by a reset of the link. One that was in Sleep is in Standby
abbrev pub held : HbaView → HbaView
held h =
    emptied (record h {
      registers = moved h.registers (after_srst_set h.registers.port);
      port = port_after (is_reset LinkReset h) h.port;
      power = after_reset h.power;
      device = after_srst h.device;
    })

-- SRST is 0: a device that is held in its reset ends it, and what was sent to it meanwhile is dropped; any other one ignores the FIS
abbrev pub released : SoftReset → HbaView → ℕ → HbaView
released Held h slot = emptied (record h { registers = moved h.registers (after_srst_cleared h.registers.port slot Held) })
released soft h slot =
    record h {
      registers = moved h.registers (after_srst_cleared h.registers.port slot soft);
      slots = slice_set h.slots slot None;
    }

abbrev pub controlled : HbaView → ℕ → Bool → HbaView
controlled h slot reset = if reset then held h else released h.registers.port.soft h slot

abbrev pub IsControlled : ℕ → HbaView → HbaView → Type 0
IsControlled slot old new = IsSomeAnd (control_in (command_at old slot)) (λ reset. new ≡ controlled old slot reset)

-- the journal that the port hands out: SRST that is set resets a port with requests
abbrev pub control_journal : HbaView → Option Bool → Option History
control_journal h (Some true) = handed_out (is_reset LinkReset h) h.port
control_journal h other = None
