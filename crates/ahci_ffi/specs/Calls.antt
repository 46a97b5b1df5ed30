-- How each call on a port is answered: exactly by the reason against it, or else by what it does of the port and puts where its
-- pointers lead.
use Rattle.std.specs.Prelude.{◌≡◌, ℕ, List, length}
use Rattle.ahci_port.specs.PortView.{PortView, next_number, sectors_in}
use Rattle.ahci_port.specs.Steps.{IsFlushed, IsIdentified, IsReissued, IsSubmitted, trimmed}
use Rattle.ahci_port.specs.declared.step.DeviceStep.TheVariants as step
use Rattle.ahci_table.specs.declared.piece_layout.PieceLayout.TheVariants as layout
use Rattle.ncq_core.specs.Identify.{identify_page}
use Rattle.ahci_ffi.specs.Asked.{has_fua, submit_refused, work_asked}
use Rattle.ahci_ffi.specs.Done.{HasCollected, HasRecovered, HasStepped, Same}
use Rattle.ahci_ffi.specs.Refusals.{accept_refusal, collect_refused, fail_refusal, flush_refusal, identify_refusal, recover_refused, reissue_refused, serve_refusal, trim_refused}
use Rattle.ahci_ffi.specs.Told.{Told, ToldOr, ToldOrLacking}
use Rattle.ahci_ffi.specs.declared.flat.FlatReply.{FlatReply}
use Rattle.ahci_ffi.specs.declared.flat.FlatStep.{FlatStep}
use Rattle.ahci_ffi.specs.declared.status.Status.{Status}

abbrev pub AnswersSubmit : (tag kind lba sectors : ℕ) → List ℕ → Status → PortView → PortView → (before after : ℕ) → Type 0
AnswersSubmit tag kind lba sectors bytes answer old new before after =
    ToldOr answer (submit_refused old tag kind lba sectors (length bytes))
    (IsSubmitted tag (work_asked kind lba sectors bytes) (has_fua kind) layout.Packed old new × (after ≡ next_number old)) (Same old new before after)

abbrev pub AnswersAccept : (tag : ℕ) → Status → PortView → PortView → (before after : FlatStep) → Type 0
AnswersAccept tag answer old new before after =
    Told answer (accept_refusal old tag) (HasStepped (step.Accept tag) old new after) (Same old new before after)

abbrev pub AnswersServe : (tags : List ℕ) → Status → PortView → PortView → (before after : FlatStep) → Type 0
AnswersServe tags answer old new before after =
    Told answer (serve_refusal old tags) (HasStepped (step.Serve (record { items = tags })) old new after) (Same old new before after)

abbrev pub AnswersFail : (tag error lba : ℕ) → Status → PortView → PortView → (before after : FlatStep) → Type 0
AnswersFail tag error lba answer old new before after =
    Told answer (fail_refusal old tag error lba) (HasStepped (step.Fail tag error lba) old new after) (Same old new before after)

abbrev pub AnswersCollect : (tag number : ℕ) → Status → PortView → PortView → (reply told : FlatReply) → (buffer filled : List ℕ) → Type 0
AnswersCollect tag number answer old new reply told buffer filled =
    Told answer (collect_refused old tag number (length buffer)) (HasCollected tag number old new told buffer filled)
    ((new ≡ old) × (told ≡ reply) × (filled ≡ buffer))

abbrev pub AnswersRecover : Status → PortView → PortView → (before after : ℕ) → Type 0
AnswersRecover answer old new before after = ToldOrLacking old answer (recover_refused old) (HasRecovered old new after) (Same old new before after)

abbrev pub AnswersReissue : (tag : ℕ) → Status → PortView → PortView → Type 0
AnswersReissue tag answer old new = Told answer (reissue_refused old tag) (IsReissued tag old new) (new ≡ old)

abbrev pub AnswersIdentify : Status → PortView → PortView → (before after : List ℕ) → Type 0
AnswersIdentify answer old new before after =
    ToldOrLacking old answer (identify_refusal old (length before)) (IsIdentified old new × (after ≡ identify_page (sectors_in old) old.depth)) (Same old new before after)

abbrev pub AnswersFlush : Status → PortView → PortView → Type 0
AnswersFlush answer old new = ToldOrLacking old answer (flush_refusal old) (IsFlushed old new) (new ≡ old)

abbrev pub AnswersTrim : Status → PortView → PortView → (before after : ℕ) → Type 0
AnswersTrim answer old new before after =
    Told answer (trim_refused old) ((new ≡ trimmed old) × (after ≡ length old.past)) (Same old new before after)
