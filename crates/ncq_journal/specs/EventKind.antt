-- What an event says without the bytes of a write. When an event may come depends on no more.
use Rattle.std.specs.Prelude.{ℕ, ◌*◌, ◌<◌, Bool, List, map, replicate, reverse, take, slice_get, IsSomeAnd, if◌then◌else◌}
use Rattle.ncq_journal.specs.Entry.{Entry, Issue, Accept, Complete, Fail, Recover, Reissue, Collect, Unqueued, Zero}
use Rattle.ncq_journal.specs.Image.{is_write}
use Rattle.ncq_journal.specs.Lawful.{IsAllowed, IsLawful}
use Rattle.ncq_journal.specs.Work.{Work, Read, Write, lba_of, sectors_of}
use Rattle.ncq_journal.specs.declared.event_kind.EventKind.{EventKind}
use Rattle.ncq_journal.specs.declared.event_kind.EventKind.TheVariants as kind

-- the kind of an entry
abbrev pub kind_of : Entry → EventKind
kind_of (Issue tag work) = kind.Issue tag (is_write work) (lba_of work) (sectors_of work)
kind_of (Accept tag) = kind.Accept tag
kind_of (Complete tag) = kind.Complete tag
kind_of (Fail tag error lba) = kind.Fail tag error lba
kind_of (Recover tag) = kind.Recover tag
kind_of (Reissue tag) = kind.Reissue tag
kind_of (Collect tag) = kind.Collect tag
kind_of (Unqueued command) = kind.Plain command
kind_of (Zero lba sectors) = kind.Zero lba sectors

-- a command over some sectors: zeros are in the place of the bytes of a write
abbrev pub work_over : (write : Bool) → (lba sectors : ℕ) → Work
work_over write lba sectors = if write then Write lba (replicate (512 * sectors) 0) else Read lba sectors

-- an entry of a kind
abbrev pub entry_of_kind : EventKind → Entry
entry_of_kind (kind.Issue tag write lba sectors) = Issue tag (work_over write lba sectors)
entry_of_kind (kind.Accept tag) = Accept tag
entry_of_kind (kind.Complete tag) = Complete tag
entry_of_kind (kind.Fail tag error lba) = Fail tag error lba
entry_of_kind (kind.Recover tag) = Recover tag
entry_of_kind (kind.Reissue tag) = Reissue tag
entry_of_kind (kind.Collect tag) = Collect tag
entry_of_kind (kind.Plain command) = Unqueued command
entry_of_kind (kind.Zero lba sectors) = Zero lba sectors

-- the tag that an event names is one of 32
abbrev pub HasLowTag : EventKind → Type 0
HasLowTag (kind.Issue tag write lba sectors) = tag < 32
HasLowTag (kind.Accept tag) = tag < 32
HasLowTag (kind.Complete tag) = tag < 32
HasLowTag (kind.Fail tag error lba) = tag < 32
HasLowTag (kind.Recover tag) = tag < 32
HasLowTag (kind.Reissue tag) = tag < 32
HasLowTag (kind.Collect tag) = tag < 32
HasLowTag (kind.Plain command) = Unit {0}
HasLowTag (kind.Zero lba sectors) = Unit {0}

-- the journal of things that each name an event, the oldest first
abbrev pub journal_of : {X : Type 0} → (X → EventKind) → List X → List Entry
journal_of says events = reverse (map (λ event. entry_of_kind (says event)) events)

-- the events before this place are lawful, and the one at it can't come after them
pub record IsFirstUnlawful {X : Type 0} (says : X → EventKind) (s d : ℕ) (events : List X) (place : ℕ) : Type 0 where
  pub before : IsLawful s d (journal_of says (take place events))
  pub here : IsSomeAnd (slice_get events place) (λ event. ¬ IsAllowed s d (journal_of says (take place events)) (entry_of_kind (says event)))
