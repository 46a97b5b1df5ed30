-- The number for C and the name of each answer. Each number stands for one thing.
use Rattle.std.specs.Prelude.{ℕ, List, codes, Option}
use Rattle.std.specs.Option.{option_map}
use Rattle.port_refusal.specs.Names as refusals
use Rattle.port_refusal.specs.declared.refusal.Refusal.{Refusal}
use Rattle.port_refusal.specs.declared.refusal.Refusal.TheVariants as refusal
use Rattle.sata_fis.specs.declared.fault.FisFault.{FisFault}
use Rattle.sata_fis.specs.declared.fault.FisFault.TheVariants as fis
use Rattle.ahci_ffi.specs.declared.status.Status.{Status}
use Rattle.ahci_ffi.specs.declared.status.Status.TheVariants as status

-- the number of a refusal
abbrev pub refused_code : Refusal → ℕ
refused_code refusal.OutOfMemory = 3
refused_code refusal.NoSuchSector = 8
refused_code refusal.BadSize = 11
refused_code refusal.BadDepth = 12
refused_code refusal.BadFirst = 13
refused_code refusal.Unaligned = 16
refused_code refusal.NoSuchRegister = 17
refused_code refusal.NotStarted = 18
refused_code refusal.NotReceiving = 19
refused_code refusal.Running = 20
refused_code refusal.NotQueued = 21
refused_code refusal.Halted = 32
refused_code refusal.NoSuchTag = 33
refused_code refusal.SlotOwned = 34
refused_code refusal.BadHeader = 35
refused_code refusal.BadCommand = 36
refused_code refusal.WrongTag = 37
refused_code refusal.BadList = 38
refused_code refusal.BadCount = 39
refused_code refusal.BadLba = 40
refused_code refusal.NotIssued = 41
refused_code refusal.NotAccepted = 42
refused_code refusal.OutsideCommand = 43
refused_code refusal.BadTags = 44
refused_code refusal.NotHalted = 45
refused_code refusal.NotHeld = 46
refused_code refusal.QueueBusy = 47
refused_code refusal.Stranger = 48
refused_code refusal.NotYet = 49
refused_code refusal.Busy = 50
refused_code refusal.Spent = 51

-- the number of each status
abbrev pub code_of : Status → ℕ
code_of status.Done = 0
code_of status.NoPort = 1
code_of status.PortThere = 2
code_of status.BufferTooSmall = 4
code_of status.WrongLength = 5
code_of status.BadTag = 6
code_of status.BadKind = 7
code_of status.NoSuchEntry = 9
code_of status.TooManyTags = 10
code_of status.EmptyFis = 64
code_of status.UnknownType = 65
code_of status.WrongFisLength = 66
code_of status.BadFlag = 67
code_of status.BadStatus = 68
code_of status.BadPayload = 69
code_of status.NotAllowed = 80
code_of status.NotReady = 52
code_of (status.Refused reason) = refused_code reason

-- its name, as `ahci replay` writes that of a refusal; "Ok" for what is done
abbrev pub name_of : Status → List ℕ
name_of status.Done = codes "Ok"
name_of status.NoPort = codes "NoPort"
name_of status.PortThere = codes "PortThere"
name_of status.BufferTooSmall = codes "BufferTooSmall"
name_of status.WrongLength = codes "WrongLength"
name_of status.BadTag = codes "BadTag"
name_of status.BadKind = codes "BadKind"
name_of status.NoSuchEntry = codes "NoSuchEntry"
name_of status.TooManyTags = codes "TooManyTags"
name_of status.EmptyFis = codes "EmptyFis"
name_of status.UnknownType = codes "UnknownType"
name_of status.WrongFisLength = codes "WrongFisLength"
name_of status.BadFlag = codes "BadFlag"
name_of status.BadStatus = codes "BadStatus"
name_of status.BadPayload = codes "BadPayload"
name_of status.NotAllowed = codes "NotAllowed"
name_of status.NotReady = codes "NotReady"
name_of (status.Refused reason) = refusals.name_of reason

-- the answer for a fault, where there is one
abbrev pub refused : {F : Type 0} → (F → Refusal) → Option F → Option Status
refused name fault = option_map (λ f. status.Refused (name f)) fault

-- bytes are no FIS
abbrev pub of_fis : FisFault → Status
of_fis fis.Empty = status.EmptyFis
of_fis (fis.UnknownType type) = status.UnknownType
of_fis (fis.WrongLength len) = status.WrongFisLength
