-- What C sees of a controller.
use Rattle.std.specs.Prelude.{◌≡◌, ◌<◌, ◌⊎◌, ℕ, List, length, slice_index_or, Option, None, Some}
use Rattle.ahci_ffi.specs.Flat.{number_if}
use Rattle.ahci_ffi.specs.Refusals.{copy_refusal, with_length}
use Rattle.ahci_ffi.specs.Told.{Told}
use Rattle.ahci_ffi.specs.declared.status.Status.{Status}
use Rattle.ahci_port.specs.PortView.{PortView}
use Rattle.power_loss.specs.Leaving.{MayBeLeft}
use Rattle.hba_memory.specs.Reading.{next_run}
use Rattle.hba_memory.specs.DmaWrites.{remaining}
use Rattle.hba_memory.specs.Runs.{first_put}
use Rattle.hba_regs.specs.Interrupts.{interrupt}
use Rattle.ahci_hba.specs.HbaView.{HbaView, DmaView, Fetching, Writing, Block}
use Rattle.ahci_hba.specs.Moving.{address_of, want_of}
use Rattle.ahci_hba.specs.Resetting.{may_sign}
use Rattle.ahci_hba.specs.Stepping.{next_step}
use Rattle.ahci_hba.specs.declared.step.Step.{Step}
use Rattle.ahci_hba.specs.declared.step.Step.TheVariants as step
use Rattle.ahci_hba.specs.declared.want.Want.{Want}
use Rattle.ahci_hba.specs.declared.want.Want.TheVariants as want
use Rattle.hba_ffi.specs.declared.flat.FlatHba.{FlatHba}

-- the numbers of what is done next with the driver's memory, and of a step
abbrev pub want_number : Want → ℕ
want_number want.Nothing = 0
want_number want.Read = 1
want_number want.Write = 2

abbrev pub step_number : Option Step → ℕ
step_number None = 0
step_number (Some step.Fetch) = 1
step_number (Some step.Send) = 2
step_number (Some step.Accept) = 3
step_number (Some step.Serve) = 4
step_number (Some step.Deliver) = 5
step_number (Some step.Execute) = 6
step_number (Some step.Control) = 7
step_number (Some step.Recover) = 8

-- how many bytes are read or written next
abbrev pub length_moved : DmaView → ℕ
length_moved (Fetching slot r) = (next_run r).length
length_moved (Block p t) = length (first_put (remaining p)).bytes
length_moved (Writing p e) = length (first_put (remaining p)).bytes
length_moved other = 0

pub record IsLook (h : HbaView) (look : FlatHba) : Type 0 where
  pub address : look.address ≡ address_of h
  pub length : look.length ≡ length_moved h.dma
  pub want : look.want ≡ want_number (want_of h.dma)
  pub interrupt : look.interrupt ≡ number_if (interrupt h.registers)
  pub sign : look.sign ≡ number_if (may_sign h)
  pub depth : look.depth ≡ h.depth
  pub next : (slot : ℕ) → slot < 32 → slice_index_or look.next slot 0 ≡ step_number (next_step h slot)

-- a word says by 1 that something holds, and by 0 that it doesn't
pub record Says (holds : Type 0) (word : ℕ) : Type 0 where
  pub yes : holds → word ≡ 1
  pub no : (word ≡ 0) ⊎ holds

-- both forms of a sector have 512 bytes, and the sector is there
abbrev pub left_refusal : PortView → (lba was bytes : ℕ) → Option Status
left_refusal port lba was bytes = with_length 512 was (copy_refusal port lba bytes)

abbrev pub AnswersLeft : PortView → (was : List ℕ) → (lba : ℕ) → (bytes : List ℕ) → Status → (before after : ℕ) → Type 0
AnswersLeft port was lba bytes answer before after =
    Told answer (left_refusal port lba (length was) (length bytes)) (Says (MayBeLeft was port.past lba bytes) after) (after ≡ before)
