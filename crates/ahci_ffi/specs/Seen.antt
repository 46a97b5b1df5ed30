-- What can be seen of a port: the entries of its journal, the pages that may have changed since it began, and all of its state at once.
use Rattle.std.specs.Prelude.{◌≡◌, ◌<◌, ℕ, not, if◌then◌else◌, List, length, take, nat_lt, slice_index_or, false, Option, None, Some}
use Rattle.std.specs.Option.{unwrap_or}
use Rattle.word_bits.specs.Places.{bits}
use Rattle.ahci_port.specs.Looking.{accepted_tags, held_tags, issued_tags}
use Rattle.ahci_port.specs.PortView.{PortView, next_number, owner_of, sectors_in}
use Rattle.ahci_regs.specs.Reading.{word_at}
use Rattle.ahci_regs.specs.declared.register.Register.TheVariants as register
use Rattle.ncq_journal.specs.Entry.{Entry, Issue}
use Rattle.ncq_journal.specs.Halted.{halted}
use Rattle.ncq_journal.specs.Phase.{phase}
use Rattle.ncq_journal.specs.Work.{Write}
use Rattle.sector_store.specs.Shown.{ChangesAmong}
use Rattle.ahci_ffi.specs.Flat.{begun_with, flat_entry, number_if, phase_number}
use Rattle.ahci_ffi.specs.Told.{Told}
use Rattle.ahci_ffi.specs.declared.flat.FlatEntry.{FlatEntry}
use Rattle.ahci_ffi.specs.declared.flat.FlatState.{FlatState}
use Rattle.ahci_ffi.specs.declared.status.Status.{Status}
use Rattle.ahci_ffi.specs.declared.status.Status.TheVariants as status

-- an entry as a struct, or there is none of this number
abbrev pub AnswersEntry : Option Entry → Status → (before after : FlatEntry) → Type 0
AnswersEntry None answer before after = (answer ≡ status.NoSuchEntry) × (after ≡ before)
AnswersEntry (Some entry) answer before after = (answer ≡ status.Done) × (after ≡ flat_entry entry)

-- the bytes of the write that an entry has issued
abbrev pub written_by : Option Entry → Option (List ℕ)
written_by (Some (Issue tag (Write lba bytes))) = Some bytes
written_by other = None

-- bytes at the beginning of a buffer that has room for them; or there are none
abbrev pub AnswersBytes : Option (List ℕ) → Status → (before after : List ℕ) → Type 0
AnswersBytes None answer before after = (answer ≡ status.NoSuchEntry) × (after ≡ before)
AnswersBytes (Some bytes) answer before after =
    Told answer (if nat_lt (length before) (length bytes) then Some status.BufferTooSmall else None) (after ≡ begun_with bytes before) (after ≡ before)

-- why no numbers of pages are copied: the disk is in memory as a whole, so they aren't known, or the buffer has no room for so many
abbrev pub touched_refusal : PortView → ℕ → ℕ → Option Status
touched_refusal port room count =
    if not port.grows then Some status.BadKind
    else if nat_lt room count then Some status.BufferTooSmall
    else None

-- so many numbers of pages of eight sectors begin the buffer, and each sector of any other page is the one with which the journal began
abbrev pub AnswersTouched : PortView → Status → (count : ℕ) → (before after : List ℕ) → Type 0
AnswersTouched port answer count before after =
    Told answer (touched_refusal port (length before) count) (ChangesAmong (take count after) port.image port.starting) (after ≡ before)
    × (port.grows ≡ false → count ≡ 0)

-- all that can be seen at once
pub record IsState (port : PortView) (state : FlatState) : Type 0 where
  pub first : state.first ≡ port.first
  pub next : state.next ≡ next_number port
  pub numbers : (tag : ℕ) → tag < 32 → slice_index_or state.numbers tag 0 ≡ unwrap_or (owner_of port tag) 0
  pub depth : state.depth ≡ port.depth
  pub sectors : state.sectors ≡ sectors_in port
  pub halted : state.halted ≡ number_if (halted port.past)
  pub issued : bits state.issued ≡ issued_tags port.past
  pub accepted : bits state.accepted ≡ accepted_tags port.past
  pub held : bits state.held ≡ held_tags port.past
  pub cap : state.cap ≡ word_at port.registers register.Cap
  pub ghc : state.ghc ≡ word_at port.registers register.Ghc
  pub pi : state.pi ≡ word_at port.registers register.Pi
  pub vs : state.vs ≡ word_at port.registers register.Vs
  pub px_clb : state.px_clb ≡ word_at port.registers register.PxClb
  pub px_clbu : state.px_clbu ≡ word_at port.registers register.PxClbu
  pub px_fb : state.px_fb ≡ word_at port.registers register.PxFb
  pub px_fbu : state.px_fbu ≡ word_at port.registers register.PxFbu
  pub px_is : state.px_is ≡ word_at port.registers register.PxIs
  pub px_ie : state.px_ie ≡ word_at port.registers register.PxIe
  pub px_cmd : state.px_cmd ≡ word_at port.registers register.PxCmd
  pub px_tfd : state.px_tfd ≡ word_at port.registers register.PxTfd
  pub px_sig : state.px_sig ≡ word_at port.registers register.PxSig
  pub px_ssts : state.px_ssts ≡ word_at port.registers register.PxSsts
  pub px_sctl : state.px_sctl ≡ word_at port.registers register.PxSctl
  pub px_serr : state.px_serr ≡ word_at port.registers register.PxSerr
  pub px_sact : state.px_sact ≡ word_at port.registers register.PxSact
  pub px_ci : state.px_ci ≡ word_at port.registers register.PxCi
  pub received : state.received ≡ port.area
  pub phases : (tag : ℕ) → tag < 32 → slice_index_or state.phases tag 0 ≡ phase_number (phase port.past tag)
