-- How the events of the link, the disk and the interface are answered.
use Rattle.std.specs.Prelude.{◌≡◌, ℕ, ◌==◌, Bool, List, length, nat_lt, Option, None, Some, if◌then◌else◌}
use Rattle.ncq_journal.specs.History.{History}
use Rattle.hba_regs.specs.declared.device_kind.DeviceKind.{DeviceKind}
use Rattle.hba_regs.specs.declared.device_kind.DeviceKind.TheVariants.{Disk, Packet, EnclosureBridge, PortMultiplier}
use Rattle.hba_regs.specs.declared.interface_error.InterfaceError.{InterfaceError}
use Rattle.hba_regs.specs.declared.interface_error.InterfaceError.TheVariants as error
use Rattle.ahci_ffi.specs.declared.status.Status.{Status}
use Rattle.ahci_ffi.specs.declared.status.Status.TheVariants as status
use Rattle.ahci_ffi.specs.Told.{Told}
use Rattle.ahci_hba.specs.Events.{failed_at_interface, may_receive, may_receive_register, receiving_bits, receiving_register, receiving_unknown}
use Rattle.ahci_hba.specs.HbaView.{HbaView}
use Rattle.ahci_hba.specs.Resetting.{may_sign, signing}
use Rattle.hba_ffi.specs.Calls.{entries_in}

-- so many entries has the journal that was handed out
abbrev pub HasHandedOut : Option History → (entries : ℕ) → Type 0
HasHandedOut journal entries = entries ≡ entries_in journal

-- the error of the interface whose bit in PxSERR has this number (AHCI 1.3.1, section 3.3.12, DIAG)
abbrev pub error_numbered : ℕ → Option InterfaceError
error_numbered number =
    if number == 19 then Some error.Decode
    else if number == 21 then Some error.Crc
    else if number == 22 then Some error.Handshake
    else if number == 23 then Some error.LinkSequence
    else if number == 24 then Some error.TransportState
    else None

-- the interface fails by this error; a number that is none's changes nothing
abbrev pub AnswersInterface : Option InterfaceError → (is_fatal : Bool) → Status → (old new : HbaView) → Type 0
AnswersInterface None is_fatal answer old new = (answer ≡ status.BadKind) × (new ≡ old)
AnswersInterface (Some e) is_fatal answer old new = (answer ≡ status.Done) × (new ≡ failed_at_interface old e is_fatal)

-- the device of a number
abbrev pub kind_numbered : ℕ → Option DeviceKind
kind_numbered number =
    if number == 0 then Some Disk
    else if number == 1 then Some Packet
    else if number == 2 then Some EnclosureBridge
    else if number == 3 then Some PortMultiplier
    else None

-- what is not possible now
abbrev pub unless_ready : Bool → Option Status
unless_ready possible = if possible then None else Some status.NotReady

-- its signature is sent; one that is none's changes nothing
abbrev pub AnswersSignAs : Option DeviceKind → Status → (old new : HbaView) → Type 0
AnswersSignAs None answer old new = (answer ≡ status.BadKind) × (new ≡ old)
AnswersSignAs (Some kind) answer old new = Told answer (unless_ready (may_sign old)) (new ≡ signing old kind) (new ≡ old)

-- FISes that no command asks for
abbrev pub AnswersBits : (notification : Bool) → Status → (old new : HbaView) → Type 0
AnswersBits notification answer old new = Told answer (unless_ready (may_receive old)) (new ≡ receiving_bits old notification) (new ≡ old)

abbrev pub AnswersRegister : Status → (old new : HbaView) → Type 0
AnswersRegister answer old new = Told answer (unless_ready (may_receive_register old)) (new ≡ receiving_register old) (new ≡ old)

-- one of a type that isn't known has at most 28 bytes
abbrev pub AnswersUnknown : (fis : List ℕ) → Status → (old new : HbaView) → Type 0
AnswersUnknown fis answer old new =
    Told answer (if nat_lt 28 (length fis) then Some status.WrongLength else unless_ready (may_receive old)) (new ≡ receiving_unknown old fis) (new ≡ old)
