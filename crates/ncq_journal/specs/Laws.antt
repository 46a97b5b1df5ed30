-- What holds of every lawful journal: the laws behind the definitions.
use Rattle.std.specs.Prelude.{◌≡◌, ◌≢◌, ◌↔◌, ℕ, ◌+◌, ◌<◌, ◌≤◌, Bool, true, false, if◌then◌else◌, List, [], ◌∷◌, ◌++◌, length, None, Some, is_some, IsSome, IsSomeAnd}
use Rattle.std.specs.List.{sum_by}
use Rattle.std.specs.Option.{option_map}
use Rattle.word_bits.specs.Places.{has_place}
use Rattle.ncq_journal.specs.declared.outcome.Outcome.{Outcome}
use Rattle.ncq_journal.specs.declared.outcome.Outcome.TheVariants as outcome
use Rattle.ncq_journal.specs.declared.phase.Phase.{Phase}
use Rattle.ncq_journal.specs.declared.phase.Phase.TheVariants.{Free, Issued, Accepted, Held}
use Rattle.ncq_journal.specs.Answer.{Answer, answer, sectors_at}
use Rattle.ncq_journal.specs.Entry.{Entry, Issue, Accept, Complete, Fail, Recover, Reissue, Collect, Unqueued, Zero}
use Rattle.ncq_journal.specs.Halted.{tags, halted, busy}
use Rattle.ncq_journal.specs.History.{entry_at, first_of}
use Rattle.ncq_journal.specs.Image.{sector_at, covers, written_at, is_write, is_within, zero_sector}
use Rattle.ncq_journal.specs.Lawful.{IsAllowed, IsLawful}
use Rattle.ncq_journal.specs.Numbering.{number_of, entry_numbered, request_numbered, answer_numbered}
use Rattle.ncq_journal.specs.Owed.{owed}
use Rattle.ncq_journal.specs.Phase.{phase, is_failed, is_busy}
use Rattle.ncq_journal.specs.Request.{Request, request}
use Rattle.ncq_journal.specs.Sector.{sector}
use Rattle.ncq_journal.specs.Tags.{sact, ci, device_tags}
use Rattle.ncq_journal.specs.Work.{Work, Read, Write}

-- a journal is lawful exactly where each entry was allowed by the entries before it
abbrev pub LawfulAtEach : Type 0
LawfulAtEach =
    (s d : ℕ) (past : List Entry) → IsLawful s d past ↔ ((k : ℕ) (entry : Entry) → entry_at past k ≡ Some entry → IsAllowed s d (first_of past k) entry)

-- a tag at or above the depth is free
abbrev pub FreePastDepth : Type 0
FreePastDepth = (s d : ℕ) (past : List Entry) (tag : ℕ) → IsLawful s d past → d ≤ tag → phase past tag ≡ Free

-- a tag that isn't free has a request
abbrev pub OwnedHasRequest : Type 0
OwnedHasRequest = (s d : ℕ) (past : List Entry) (tag : ℕ) → IsLawful s d past → phase past tag ≢ Free → IsSome (request past tag)

-- the entry of a request's number is the Issue of its tag for its command
abbrev pub RequestIsItsIssue : Type 0
RequestIsItsIssue = (past : List Entry) (tag : ℕ) (r : Request) → request past tag ≡ Some r → entry_at past r.number ≡ Some (Issue tag r.work)

-- the request has its answer; one whose tag is free again was answered before it was collected
abbrev pub is_answered : Phase → Bool
is_answered Issued = false
is_answered Accepted = false
is_answered Held = false
is_answered p = true

-- a tag's request is answered exactly when the tag is done, broken or rejected since, or collected after that
abbrev pub AnsweredByPhase : Type 0
AnsweredByPhase =
    (s d : ℕ) (image : List ℕ) (past : List Entry) (tag : ℕ) (r : Request) → IsLawful s d past → request past tag ≡ Some r → is_some (answer image past r.number) ≡ is_answered (phase past tag)

-- what requests can still need is at most four entries for each of 32 tags
abbrev pub OwedIsFew : Type 0
OwedIsFew = (past : List Entry) → owed past ≤ 128

-- how many entries more a tag needs once an error has ended its command
abbrev pub owed_more : Phase → ℕ
owed_more Issued = 1
owed_more Accepted = 2
owed_more p = 0

-- how many entries fewer a tag needs once its command has failed
abbrev pub owed_less : Phase → ℕ
owed_less Issued = 2
owed_less Accepted = 1
owed_less p = 0

-- how one more entry moves what the requests can still need
abbrev pub MovesOwed : List Entry → Entry → Type 0
MovesOwed past (Issue t work) = owed (Issue t work ∷ past) ≡ owed past + 3
MovesOwed past (Accept t) = owed (Accept t ∷ past) + 1 ≡ owed past
MovesOwed past (Complete t) = owed (Complete t ∷ past) + 1 ≡ owed past
MovesOwed past (Fail t error lba) = owed (Fail t error lba ∷ past) + owed_less (phase past t) ≡ owed past
MovesOwed past (Recover t) = owed (Recover t ∷ past) ≡ owed past + sum_by (λ tag. owed_more (phase past tag)) tags
MovesOwed past (Reissue t) = owed (Reissue t ∷ past) + 1 ≡ owed past
MovesOwed past (Collect t) = owed (Collect t ∷ past) + 1 ≡ owed past
MovesOwed past (Unqueued command) = owed (Unqueued command ∷ past) ≡ owed past
MovesOwed past (Zero lba sectors) = owed (Zero lba sectors ∷ past) ≡ owed past

abbrev pub OwedMoves : Type 0
OwedMoves = (s d : ℕ) (past : List Entry) (entry : Entry) → d ≤ 32 → IsLawful s d (entry ∷ past) → MovesOwed past entry

-- a completed write changes exactly its sectors
abbrev pub WritesItsSectors : Type 0
WritesItsSectors =
    (image : List ℕ) (past : List Entry) (tag : ℕ) (r : Request) (s : ℕ) → request past tag ≡ Some r → is_write r.work ≡ true
    → sector image (Complete tag ∷ past) s ≡ (if covers r.work s then written_at r.work s else sector image past s)

-- a Zero changes exactly its sectors, each of which has 512 zeros then
abbrev pub ZeroesItsSectors : Type 0
ZeroesItsSectors =
    (image : List ℕ) (past : List Entry) (lba sectors s : ℕ)
    → sector image (Zero lba sectors ∷ past) s ≡ (if is_within lba sectors s then zero_sector else sector image past s)

-- the entry completes a write, or makes sectors zeros
abbrev pub changes_sectors : List Entry → Entry → Bool
changes_sectors past (Complete t) = elim (request past t) [ None ↦ false | Some r ↦ is_write r.work ]
changes_sectors past (Zero lba sectors) = true
changes_sectors past entry = false

-- every other entry changes no sector
abbrev pub OthersWriteNothing : Type 0
OthersWriteNothing =
    (image : List ℕ) (past : List Entry) (entry : Entry) (s : ℕ) → changes_sectors past entry ≡ false → sector image (entry ∷ past) s ≡ sector image past s

-- the request ended with an error
abbrev pub is_failure : Outcome → Bool
is_failure outcome.Read = false
is_failure outcome.Wrote = false
is_failure (outcome.Failed error lba) = true

-- each Complete answers the request whose command it completes, so a failed command has changed no sector
abbrev pub CompletedIsAnswered : Type 0
CompletedIsAnswered =
    (s d : ℕ) (image : List ℕ) (past : List Entry) (k tag : ℕ) (r : Request) → IsLawful s d past → entry_at past k ≡ Some (Complete tag) → request (first_of past k) tag ≡ Some r
    → IsSomeAnd (answer image past r.number) (λ a. (a.entry ≡ k) × (is_failure a.outcome ≡ false))

-- a request that was answered with an error was never completed
abbrev pub FailedIsNotCompleted : Type 0
FailedIsNotCompleted =
    (s d : ℕ) (image : List ℕ) (past : List Entry) (k tag : ℕ) (r : Request) → IsLawful s d past → IsSomeAnd (answer image past r.number) (λ a. is_failure a.outcome ≡ true)
    → request (first_of past k) tag ≡ Some r → entry_at past k ≢ Some (Complete tag)

-- the answer of a command that entry k completes: a read has the sectors as they were before it
abbrev pub answer_at : List ℕ → List Entry → ℕ → Work → Answer
answer_at image before k (Read lba sectors) = record { entry = k; outcome = outcome.Read; bytes = sectors_at image before lba sectors }
answer_at image before k (Write lba bytes) = record { entry = k; outcome = outcome.Wrote; bytes = [] }

-- what a Complete answers
abbrev pub CompletedHasThisAnswer : Type 0
CompletedHasThisAnswer =
    (s d : ℕ) (image : List ℕ) (past : List Entry) (k tag : ℕ) (r : Request) → IsLawful s d past → entry_at past k ≡ Some (Complete tag) → request (first_of past k) tag ≡ Some r
    → answer image past r.number ≡ Some (answer_at image (first_of past k) k r.work)

-- what a Fail answers: its error and its LBA
abbrev pub FailedHasThisAnswer : Type 0
FailedHasThisAnswer =
    (s d : ℕ) (image : List ℕ) (past : List Entry) (k tag error lba : ℕ) (r : Request) → IsLawful s d past → entry_at past k ≡ Some (Fail tag error lba) → request (first_of past k) tag ≡ Some r
    → answer image past r.number ≡ Some (record { entry = k; outcome = outcome.Failed error lba; bytes = [] })

-- a request that has no answer yet is its tag's last
abbrev pub UnansweredIsLast : Type 0
UnansweredIsLast =
    (s d : ℕ) (image : List ℕ) (past : List Entry) (n tag : ℕ) (work : Work) → IsLawful s d past → entry_at past n ≡ Some (Issue tag work) → answer image past n ≡ None
    → request past tag ≡ Some (record { number = n; work = work })

-- at most one tag's command has failed
abbrev pub OneHasFailed : Type 0
OneHasFailed =
    (s d : ℕ) (past : List Entry) (t u : ℕ) → d ≤ 32 → IsLawful s d past → is_failed (phase past t) ≡ true → is_failed (phase past u) ≡ true → t ≡ u

-- whether a port has halted, and whether it is busy, is a question about all tags, also those above 31
abbrev pub HaltedByATag : Type 0
HaltedByATag = (s d : ℕ) (past : List Entry) → d ≤ 32 → IsLawful s d past → (halted past ≡ true) ↔ ((tag : ℕ) × (is_failed (phase past tag) ≡ true))

abbrev pub BusyByATag : Type 0
BusyByATag = (s d : ℕ) (past : List Entry) → d ≤ 32 → IsLawful s d past → (busy past ≡ true) ↔ ((tag : ℕ) × (is_busy (phase past tag) ≡ true))

-- the tags outstanding in the device are among those of PxSACT
abbrev pub DeviceTagsInSact : Type 0
DeviceTagsInSact = (past : List Entry) (tag : ℕ) → has_place (device_tags past) tag ≡ true → has_place (sact past) tag ≡ true

-- the tags of PxCI are among those of PxSACT
abbrev pub CiInSact : Type 0
CiInSact = (past : List Entry) (tag : ℕ) → has_place (ci past) tag ≡ true → has_place (sact past) tag ≡ true

-- every tag is free
abbrev pub AllFree : List Entry → Type 0
AllFree past = (tag : ℕ) → phase past tag ≡ Free

-- a lawful journal may follow any other, whose requests were dropped: each sector after both is that of the later journal
-- over the image after the earlier one
abbrev pub SectorsFollow : Type 0
SectorsFollow =
    (s d : ℕ) (image middle : List ℕ) (later past : List Entry) → IsLawful s d later → ((i : ℕ) → sector_at middle i ≡ sector image past i)
    → (i : ℕ) → sector image (later ++ past) i ≡ sector middle later i

-- so is the answer to each request of the later journal, with places counted on from the earlier one's length
abbrev pub AnswersFollow : Type 0
AnswersFollow =
    (s d : ℕ) (image middle : List ℕ) (later past : List Entry) (place : ℕ) → IsLawful s d later → ((i : ℕ) → sector_at middle i ≡ sector image past i)
    → answer image (later ++ past) (number_of (length past) place) ≡ option_map (answer_numbered (length past)) (answer middle later place)

-- a request that has its answer keeps it, whatever follows
abbrev pub AnswersStay : Type 0
AnswersStay = (image : List ℕ) (later past : List Entry) (place : ℕ) (a : Answer) → answer image past place ≡ Some a → answer image (later ++ past) place ≡ Some a

-- where every tag is free between two parts of a journal, the later part is a journal of its own, and the image after
-- both is that of the later part over the image after the earlier one
abbrev pub TwoParts : Type 0
TwoParts =
    (s d : ℕ) (image middle : List ℕ) (later past : List Entry) → IsLawful s d (later ++ past) → AllFree past → ((i : ℕ) → sector_at middle i ≡ sector image past i)
    → IsLawful s d later × ((i : ℕ) → sector image (later ++ past) i ≡ sector middle later i)

-- a tag's command has come to the same after both parts as after the later part alone
abbrev pub PhaseOfParts : Type 0
PhaseOfParts = (later past : List Entry) (tag : ℕ) → AllFree past → phase (later ++ past) tag ≡ phase later tag

-- what is said of a journal is said of both parts where it is said of the later part alone
abbrev pub SaidOfLater : {X : Type 0} → (List Entry → X) → Type 0
SaidOfLater says = (later past : List Entry) → AllFree past → says (later ++ past) ≡ says later

-- both parts together are lawful where each is
abbrev pub LawfulOfParts : Type 0
LawfulOfParts = (s d : ℕ) (later past : List Entry) → IsLawful s d past → AllFree past → IsLawful s d (later ++ past) ↔ IsLawful s d later

-- a request of the later part is that of both, with its place counted on from the length of the earlier part
abbrev pub RequestOfParts : Type 0
RequestOfParts =
    (later past : List Entry) (tag : ℕ) (r : Request) → request later tag ≡ Some r → request (later ++ past) tag ≡ Some (request_numbered (length past) r)

-- so is the answer to a request of the later part, over the image after the earlier one
abbrev pub AnswerOfParts : Type 0
AnswerOfParts =
    (s d : ℕ) (image middle : List ℕ) (later past : List Entry) (place : ℕ) → IsLawful s d (later ++ past) → AllFree past
    → ((i : ℕ) → sector_at middle i ≡ sector image past i)
    → answer image (later ++ past) (number_of (length past) place) ≡ option_map (answer_numbered (length past)) (answer middle later place)

-- a request of the earlier part has its answer there
abbrev pub AnswerOfEarlier : Type 0
AnswerOfEarlier =
    (s d : ℕ) (image : List ℕ) (later past : List Entry) (place : ℕ) → IsLawful s d past → AllFree past → place < length past
    → answer image (later ++ past) place ≡ answer image past place

-- the entry of a place's number is the entry at that place
abbrev pub NumberOfPlace : Type 0
NumberOfPlace = (first place : ℕ) (past : List Entry) → entry_numbered first past (number_of first place) ≡ entry_at past place

-- a number below the first has no entry, and none from the end on has one
abbrev pub NoneBelowFirst : Type 0
NoneBelowFirst = (first number : ℕ) (past : List Entry) → number < first → entry_numbered first past number ≡ None

abbrev pub NoneFromEnd : Type 0
NoneFromEnd = (first number : ℕ) (past : List Entry) → number_of first (length past) ≤ number → entry_numbered first past number ≡ None

-- two places have two numbers
abbrev pub NumbersDiffer : Type 0
NumbersDiffer = (first place other : ℕ) → number_of first place ≡ number_of first other → place ≡ other
