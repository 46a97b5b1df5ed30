-- A struct that was filled in from an entry names that entry's event.
use Rattle.std.proofs.Common.{◌≡◌, ◌<◌, ◌∙◌, ℕ, false, cond, nat_lt, ap, refl}
use Rattle.std.proofs.lemmas.Bool.{lt-ltb}
use Rattle.ncq_journal.specs.Entry.{Issue, Accept, Complete, Fail, Recover, Reissue, Collect, Unqueued, Zero}
use Rattle.ncq_journal.specs.Work.{Read, Write}
use Rattle.ncq_journal.specs.declared.event_kind.EventKind.{EventKind}
use Rattle.ncq_journal.specs.declared.event_kind.EventKind.TheVariants as kind
use Rattle.ncq_journal.specs.declared.plain.Plain.TheVariants.{Identify, Flush, ReadLog}
use Rattle.ahci_ffi.specs.Judging.{DoEntriesNameTheirEvents, nameless}

-- a tag below 32 is taken as it is
low : (tag : ℕ) (k : EventKind) → tag < 32 → cond (nat_lt tag 32) k nameless ≡ k
low tag k small = ap (λ b. cond b k nameless) (lt-ltb tag 32 small)

pub entries_name_their_events : DoEntriesNameTheirEvents
entries_name_their_events (Issue tag (Read lba sectors)) small byte = low tag (kind.Issue tag false lba sectors) small
entries_name_their_events (Issue tag (Write lba bytes)) small byte = low tag _ small
entries_name_their_events (Accept tag) small byte = low tag (kind.Accept tag) small
entries_name_their_events (Complete tag) small byte = low tag (kind.Complete tag) small
entries_name_their_events (Fail tag error lba) small byte =
    low tag _ small ∙ ap (λ b. cond b (kind.Fail tag error lba) nameless) (lt-ltb error 256 byte)
entries_name_their_events (Recover tag) small byte = low tag (kind.Recover tag) small
entries_name_their_events (Reissue tag) small byte = low tag (kind.Reissue tag) small
entries_name_their_events (Collect tag) small byte = low tag (kind.Collect tag) small
entries_name_their_events (Unqueued Identify) small byte = refl
entries_name_their_events (Unqueued Flush) small byte = refl
entries_name_their_events (Unqueued ReadLog) small byte = refl
entries_name_their_events (Zero lba sectors) small byte = refl
