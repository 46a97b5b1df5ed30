-- What is answered to a driver's write of a register (AHCI 1.3.1, section 3.3). What it does is said in ahci_port's Writes.
use Rattle.std.specs.Prelude.{◌≡◌, ℕ, List, length, None}
use Rattle.ahci_port.specs.PortView.{PortView}
use Rattle.ahci_port.specs.Writes.{Leaves, RefusesWrite, TakesWrite}
use Rattle.ahci_port.specs.declared.fault.WriteFault.{WriteFault}
use Rattle.ahci_port.specs.declared.fault.WriteFault.TheVariants as fault
use Rattle.ahci_port.specs.declared.pending.Pending.{Pending}
use Rattle.ahci_port.specs.declared.written.Written.{Written}
use Rattle.ahci_port.specs.declared.written.Written.TheVariants as written
use Rattle.ahci_ffi.specs.Asked.{AnswersUnless}
use Rattle.ahci_ffi.specs.Refusals.{with_length}
use Rattle.ahci_port.specs.Refusals.{of_write}
use Rattle.ahci_ffi.specs.declared.flat.FlatWritten.{FlatWritten}
use Rattle.ahci_ffi.specs.declared.status.Status.{Status}
use Rattle.ahci_ffi.specs.declared.status.Status.TheVariants as status

-- how many bytes a command list of 32 headers has (section 4.2.2)
abbrev pub list_bytes : ℕ
list_bytes = 1024

-- what a write did: no command moves; the commands of these slots are issued; the port recovers from this tag's failure
abbrev pub flat_written : Written → FlatWritten
flat_written written.Noted = record { did = 0; slots = 0; tag = 0 }
flat_written (written.Commanded slots) = record { did = 1; slots = slots; tag = 0 }
flat_written (written.Recovered tag) = record { did = 2; slots = 0; tag = tag }

-- of a refused write nothing is reported but the slot whose command was not issued, where that is the fault
abbrev pub flat_refused : WriteFault → FlatWritten → FlatWritten
flat_refused (fault.Issue slot why) before = record { did = 3; slots = 0; tag = slot }
flat_refused other before = before

-- a write is taken; or it is refused for a fault that it has, and leaves what such a one leaves
pub data AnswersWord (offset word : ℕ) (list windows : List ℕ) (answer : Status) (old new : PortView) (before after : Pending) (flat told : FlatWritten) : Type 0 where
  is_taken : (did : Written) → answer ≡ status.Done → TakesWrite offset word list windows old new before after did → told ≡ flat_written did
      → AnswersWord offset word list windows answer old new before after flat told
  is_refused : (why : WriteFault) → answer ≡ status.Refused (of_write why) → RefusesWrite offset word list windows old new before why
      → Leaves word list windows old new before after why → told ≡ flat_refused why flat
      → AnswersWord offset word list windows answer old new before after flat told

-- the length of the command list is looked at first
abbrev pub AnswersWrite : (offset word : ℕ) → (list windows : List ℕ) → Status → (old new : PortView) → (before after : Pending) → (flat told : FlatWritten) → Type 0
AnswersWrite offset word list windows answer old new before after flat told =
    AnswersUnless (with_length list_bytes (length list) None) answer
    (AnswersWord offset word list windows answer old new before after flat told) ((new ≡ old) × (after ≡ before) × (told ≡ flat))
