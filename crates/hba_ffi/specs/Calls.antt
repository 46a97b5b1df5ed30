-- How each call on a controller is answered: exactly by the reason against it, or else by what it does of the controller and puts where its
-- pointers lead.
use Rattle.std.specs.Prelude.{◌≡◌, ℕ, ◌^◌, ◌⊎◌, List, length, nat_le, Option, None, Some, IsSomeAnd, if◌then◌else◌}
use Rattle.ncq_journal.specs.History.{History}
use Rattle.hba_command.specs.declared.trim_range.TrimRange.{TrimRange}
use Rattle.hba_regs.specs.Accessing.{read_of, size_of, write_of}
use Rattle.hba_regs.specs.declared.access_size.AccessSize.{AccessSize}
use Rattle.hba_regs.specs.declared.device_kind.DeviceKind.TheVariants.{Disk}
use Rattle.port_refusal.specs.declared.refusal.Refusal.TheVariants as refusal
use Rattle.ahci_ffi.specs.Refusals.{trim_refused, with_length, with_tag}
use Rattle.ahci_ffi.specs.Told.{Told, ToldOr}
use Rattle.ahci_ffi.specs.declared.status.Status.{Status}
use Rattle.ahci_ffi.specs.declared.status.Status.TheVariants as status
use Rattle.ahci_hba.specs.Dropping.{journal_out, written}
use Rattle.ahci_hba.specs.Failing.{Fails, ended_at, own_in, refused_at}
use Rattle.ahci_hba.specs.HbaView.{HbaView}
use Rattle.ahci_hba.specs.Moving.{put_next, run_read, supplied}
use Rattle.ahci_hba.specs.PoweringOn.{power_on_journal, powered_on}
use Rattle.ahci_hba.specs.Resetting.{may_sign, signing}
use Rattle.ahci_hba.specs.Stepping.{IsTaken, may_fail, may_refuse, next_step, trim_range}
use Rattle.ahci_hba.specs.Trimming.{trimmed_hba}
use Rattle.ahci_hba.specs.declared.step.Step.{Step}

-- an access of 1, 2, 4 or 8 bytes, or of another size
abbrev pub OfSize : Option AccessSize → Status → (AccessSize → Type 0) → (same : Type 0) → Type 0
OfSize None answer done same = (answer ≡ status.WrongLength) × same
OfSize (Some size) answer done same = (answer ≡ status.Done) × done size

abbrev pub AnswersRead : (offset bytes : ℕ) → Status → HbaView → (before after : ℕ) → Type 0
AnswersRead offset bytes answer h before after =
    OfSize (size_of bytes) answer (λ size. after ≡ read_of h.registers offset size) (after ≡ before)

-- how many entries the journal has that was handed out
abbrev pub entries_in : Option History → ℕ
entries_in None = 0
entries_in (Some journal) = length journal.past

-- the driver's write, and the journal that is handed out if it resets the port
pub record HasWritten (offset : ℕ) (size : AccessSize) (value : ℕ) (old new : HbaView) (entries : ℕ) : Type 0 where
  pub state : new ≡ written old (write_of old.registers offset size value)
  pub counted : entries ≡ entries_in (journal_out old (write_of old.registers offset size value))

abbrev pub AnswersWrite : (offset bytes value : ℕ) → Status → (old new : HbaView) → (before after : ℕ) → Type 0
AnswersWrite offset bytes value answer old new before after =
    OfSize (size_of bytes) answer (λ size. HasWritten offset size value old new after) ((new ≡ old) × (after ≡ before))

-- power-on, and the journal that is handed out if it resets the port
pub record HasPoweredOn (old new : HbaView) (entries : ℕ) : Type 0 where
  pub state : new ≡ powered_on old
  pub counted : entries ≡ entries_in (power_on_journal old)

abbrev pub AnswersPowerOn : Status → (old new : HbaView) → (entries : ℕ) → Type 0
AnswersPowerOn answer old new entries = (answer ≡ status.Done) × HasPoweredOn old new entries

abbrev pub AnswersSupply : List ℕ → Status → (old new : HbaView) → Type 0
AnswersSupply bytes answer old new =
    ToldOr answer (with_length (run_read old.dma).length (length bytes) None) (new ≡ supplied old old.dma bytes) (new ≡ old)

abbrev pub AnswersBytes : Status → HbaView → (before after : List ℕ) → Type 0
AnswersBytes answer h before after =
    Told answer (with_length (length (put_next h.dma).bytes) (length before) None) (after ≡ (put_next h.dma).bytes) (after ≡ before)

-- a step that is not possible now
abbrev pub unless_possible : {X : Type 0} → Option X → Option Status
unless_possible None = Some status.NotReady
unless_possible (Some x) = None

-- the next step with a slot's command was taken, and a journal handed out if it resets the port
pub record HasTaken (slot : ℕ) (old new : HbaView) (entries : ℕ) (s : Step) : Type 0 where
  pub journal : Option History
  pub taken : IsTaken s slot old new journal
  pub counted : entries ≡ entries_in journal

abbrev pub AnswersStep : (slot : ℕ) → Status → (old new : HbaView) → (before after : ℕ) → Type 0
AnswersStep slot answer old new before after =
    ToldOr answer (with_tag slot (unless_possible (next_step old slot))) (IsSomeAnd (next_step old slot) (HasTaken slot old new after))
    ((new ≡ old) × (after ≡ before))

-- the sectors that the next step makes zeros: the first of them and how many, which is 0 if it makes none so
abbrev pub first_zeroed : Option TrimRange → ℕ
first_zeroed None = 0
first_zeroed (Some range) = range.lba

abbrev pub many_zeroed : Option TrimRange → ℕ
many_zeroed None = 0
many_zeroed (Some range) = range.sectors

abbrev pub AnswersTrimRange : (slot : ℕ) → Status → HbaView → (lba lba' sectors sectors' : ℕ) → Type 0
AnswersTrimRange slot answer h lba lba' sectors sectors' =
    Told answer (with_tag slot None) ((lba' ≡ first_zeroed (trim_range h slot)) × (sectors' ≡ many_zeroed (trim_range h slot))) ((lba' ≡ lba) × (sectors' ≡ sectors))

-- whatever else may be, an allocation can have failed
abbrev pub OrLacks : (told : Type 0) → Status → (same : Type 0) → Type 0
OrLacks told answer same = told ⊎ ((answer ≡ (status.Refused refusal.OutOfMemory)) × same)

abbrev pub AnswersFail : (slot error lba : ℕ) → Status → (old new : HbaView) → Type 0
AnswersFail slot error lba answer old new =
    OrLacks (Told answer (with_tag slot (if may_fail old slot lba then None else Some status.NotReady)) (Fails slot error lba (own_in old slot lba) old new) (new ≡ old))
    answer (new ≡ old)

-- an LBA has 48 bits
abbrev pub refuse_refusal : HbaView → (slot lba : ℕ) → Option Status
refuse_refusal h slot lba =
    with_tag slot (if nat_le (2 ^ 48) lba then Some (status.Refused refusal.BadLba) else if may_refuse h slot then None else Some status.NotReady)

abbrev pub AnswersRefuse : (slot error lba : ℕ) → Status → (old new : HbaView) → Type 0
AnswersRefuse slot error lba answer old new =
    ToldOr answer (refuse_refusal old slot lba) (new ≡ refused_at old slot error lba) (new ≡ old)

abbrev pub AnswersEnd : (slot state error lba : ℕ) → Status → (old new : HbaView) → Type 0
AnswersEnd slot state error lba answer old new =
    ToldOr answer (refuse_refusal old slot lba) (new ≡ ended_at old slot state error lba) (new ≡ old)

abbrev pub AnswersSign : Status → (old new : HbaView) → Type 0
AnswersSign answer old new = Told answer (if may_sign old then None else Some status.NotReady) (new ≡ signing old Disk) (new ≡ old)

abbrev pub AnswersTrim : Status → (old new : HbaView) → (before after : ℕ) → Type 0
AnswersTrim answer old new before after =
    Told answer (trim_refused old.port) ((new ≡ trimmed_hba old) × (after ≡ length old.port.past)) ((new ≡ old) × (after ≡ before))
