-- The events of a pass over the journal, one after the other.
use Rattle.std.proofs.Common.{◌≡◌, ◌≢◌, ℕ, ◌+◌, ◌*◌, ◌<◌, ◌≤◌, List, [], ◌∷◌, length, set, ◌/◌, take, ap, sym, refl, subst, ◌∙◌, Option, Some, get_or, arith}
use Rattle.ncq_journal.specs.declared.outcome.Outcome.TheVariants as outcome
use Rattle.ncq_journal.specs.Answer.{Answer}
use Rattle.ncq_journal.specs.Entry.{Entry, entry_of, Issue, Complete, Fail, Zero}
use Rattle.ncq_journal.specs.History.{history_of}
use Rattle.ncq_journal.specs.Image.{IsZeroedOver}
use Rattle.ncq_journal.specs.Lawful.{IsAllowed, IsLawful}
use Rattle.ncq_journal.specs.Phase.{phase}
use Rattle.ncq_journal.specs.Request.{Request, request}
use Rattle.ncq_journal.specs.Work.{Work, work_of}
use Rattle.ncq_journal.proofs.PhaseLemmas.{fails_not_free}
use Rattle.ncq_journal.specs.declared.event.Event.{Event}
use Rattle.ncq_journal.specs.declared.event.Event.TheVariants as code
use Rattle.ncq_journal.specs.declared.op.Op.{Op}
use Rattle.ncq_journal.specs.Passing.{IsImageAfter, completed_over}
use Rattle.ncq_journal.proofs.PassLemmas.{IsEnding, IsMoving, IsNext, IsPassed, accepted_taken, ending, moving, next_is, not_issue, passed_complete, passed_fail, passed_issue, passed_quiet, passed_zero}

-- an event of a pass
pub record IsAt {A : _} (image : List ℕ) (events : List (Event A)) (depth i : ℕ) (event : Event A) : Type 0 where
  pub whole : length image ≡ 512 * (length image / 512)
  pub low : i < length events
  pub is : event ≡ get_or events i event
  pub lawful : IsLawful (length image / 512) depth (history_of events)

next_at : {A : _} (image : List ℕ) (events : List (Event A)) (depth i : ℕ) (event : Event A) → IsAt image events depth i event → IsNext (length image / 512) depth events i event
next_at image events depth i event a = next_is (length image / 512) depth events i event a.low a.is a.lawful

allowed_as : {A : _} (s d : ℕ) (past : List Entry) (event other : Event A) → event ≡ other → IsAllowed s d past (entry_of event) → IsAllowed s d past (entry_of other)
allowed_as s d past event other e h = subst (λ x. IsAllowed s d past (entry_of x)) e h

more_as : {A : _} (events : List (Event A)) (i : ℕ) (event other : Event A) (later : List Entry) → event ≡ other
    → later ≡ entry_of event ∷ history_of (take i events) → entry_of other ∷ history_of (take i events) ≡ later
more_as events i event other later e h = sym (h ∙ ap (λ x. entry_of x ∷ history_of (take i events)) e)

pub issue_low : {A : _} {image : List ℕ} {events : List (Event A)} {depth i : ℕ} {event : Event A} {tag : ℕ} {op : Op A} {now : List ℕ}
    {requests : List (Option ℕ)} {answers : List (Option Answer)} → IsAt image events depth i event → event ≡ code.Issue tag op
    → IsPassed image (history_of (take i events)) (length events) depth now requests answers → tag < length requests
issue_low {image} {events} {depth} {i} {event} {tag} {op} {now} {requests} {answers} a e p =
    let n = next_at image events depth i event a in
    let may = allowed_as (length image / 512) depth (history_of (take i events)) event (code.Issue tag op) e n.allowed in
    let deep : tag < depth = may.0 in
    let t = p.tags in omega arith

pub issue_next : {A : _} {image : List ℕ} {events : List (Event A)} {depth i : ℕ} {event : Event A} {tag : ℕ} {op : Op A} {now : List ℕ}
    {requests : List (Option ℕ)} {answers : List (Option Answer)} → IsAt image events depth i event → event ≡ code.Issue tag op
    → IsPassed image (history_of (take i events)) (length events) depth now requests answers
    → IsPassed image (history_of (take (i + 1) events)) (length events) depth now (set requests tag (Some i)) answers
issue_next {image} {events} {depth} {i} {event} {tag} {op} {now} {requests} {answers} a e p =
    let n = next_at image events depth i event a in
    let may = allowed_as (length image / 512) depth (history_of (take i events)) event (code.Issue tag op) e n.allowed in
    subst (λ h. IsPassed image h (length events) depth now (set requests tag (Some i)) answers) (more_as events i event (code.Issue tag op) _ e n.more)
    (subst (λ k. IsPassed image (Issue tag (work_of op) ∷ history_of (take i events)) (length events) depth now (set requests tag (Some k)) answers) n.len
    (passed_issue image (history_of (take i events)) (length events) depth tag (work_of op) now requests answers may.0 p))

pub complete_ending : {A : _} {image : List ℕ} {events : List (Event A)} {depth i : ℕ} {event : Event A} {tag : ℕ} {now : List ℕ}
    {requests : List (Option ℕ)} {answers : List (Option Answer)} → IsAt image events depth i event → event ≡ code.Complete tag
    → IsPassed image (history_of (take i events)) (length events) depth now requests answers → IsEnding (history_of (take i events)) depth tag requests answers
complete_ending {image} {events} {depth} {i} {event} {tag} {now} {requests} {answers} a e p =
    let n = next_at image events depth i event a in
    let may = allowed_as (length image / 512) depth (history_of (take i events)) event (code.Complete tag) e n.allowed in
    let few : length (history_of (take i events)) ≤ length events = (let l = n.len in let b = a.low in omega arith) in
    ending (length image / 512) depth image (history_of (take i events)) (length events) tag now requests answers few n.before (accepted_taken (history_of (take i events)) tag may.0) p

pub complete_moving : {A : _} {image : List ℕ} {events : List (Event A)} {depth i : ℕ} {event : Event A} {tag : ℕ} {r : Request} {now : List ℕ}
    {requests : List (Option ℕ)} {answers : List (Option Answer)} → IsAt image events depth i event → event ≡ code.Complete tag → request (history_of (take i events)) tag ≡ Some r
    → IsPassed image (history_of (take i events)) (length events) depth now requests answers → IsMoving r.work now
complete_moving {image} {events} {depth} {i} {event} {tag} {r} {now} {requests} {answers} a e q p =
    let n = next_at image events depth i event a in
    let may = allowed_as (length image / 512) depth (history_of (take i events)) event (code.Complete tag) e n.allowed in
    moving (length image / 512) depth image (history_of (take i events)) (length events) tag r now requests answers a.whole n.before may.0 q p

pub complete_next : {A : _} {image : List ℕ} {events : List (Event A)} {depth i : ℕ} {event : Event A} {tag : ℕ} {r : Request} {now new : List ℕ}
    {requests : List (Option ℕ)} {answers : List (Option Answer)} → IsAt image events depth i event → event ≡ code.Complete tag → request (history_of (take i events)) tag ≡ Some r
    → IsImageAfter r.work now new → IsPassed image (history_of (take i events)) (length events) depth now requests answers
    → IsPassed image (history_of (take (i + 1) events)) (length events) depth new requests (set answers r.number (Some (completed_over now i r.work)))
complete_next {image} {events} {depth} {i} {event} {tag} {r} {now} {new} {requests} {answers} a e q after p =
    let n = next_at image events depth i event a in
    let may = allowed_as (length image / 512) depth (history_of (take i events)) event (code.Complete tag) e n.allowed in
    let few : length (history_of (take i events)) ≤ length events = (let l = n.len in let b = a.low in omega arith) in
    subst (λ h. IsPassed image h (length events) depth new requests (set answers r.number (Some (completed_over now i r.work)))) (more_as events i event (code.Complete tag) _ e n.more)
    (subst (λ k. IsPassed image (Complete tag ∷ history_of (take i events)) (length events) depth new requests (set answers r.number (Some (completed_over now k r.work)))) n.len
    (passed_complete (length image / 512) depth image (history_of (take i events)) (length events) depth tag r now new requests answers few (n.before, may) q after p))

fail_taken : {A : _} (image : List ℕ) (events : List (Event A)) (depth i : ℕ) (event : Event A) (tag error lba : ℕ) → IsAt image events depth i event
    → event ≡ code.Fail tag error lba → IsAllowed (length image / 512) depth (history_of (take i events)) (Fail tag error lba)
fail_taken image events depth i event tag error lba a e =
    allowed_as (length image / 512) depth (history_of (take i events)) event (code.Fail tag error lba) e (next_at image events depth i event a).allowed

pub fail_ending : {A : _} {image : List ℕ} {events : List (Event A)} {depth i : ℕ} {event : Event A} {tag error lba : ℕ} {now : List ℕ}
    {requests : List (Option ℕ)} {answers : List (Option Answer)} → IsAt image events depth i event → event ≡ code.Fail tag error lba
    → IsPassed image (history_of (take i events)) (length events) depth now requests answers → IsEnding (history_of (take i events)) depth tag requests answers
fail_ending {image} {events} {depth} {i} {event} {tag} {error} {lba} {now} {requests} {answers} a e p =
    let n = next_at image events depth i event a in
    let may = fail_taken image events depth i event tag error lba a e in
    let few : length (history_of (take i events)) ≤ length events = (let l = n.len in let b = a.low in omega arith) in
    ending (length image / 512) depth image (history_of (take i events)) (length events) tag now requests answers few n.before
    (fails_not_free (length image / 512) (request (history_of (take i events)) tag) (phase (history_of (take i events)) tag) error lba may.1) p

pub fail_next : {A : _} {image : List ℕ} {events : List (Event A)} {depth i : ℕ} {event : Event A} {tag error lba : ℕ} {r : Request} {now : List ℕ}
    {requests : List (Option ℕ)} {answers : List (Option Answer)} → IsAt image events depth i event → event ≡ code.Fail tag error lba → request (history_of (take i events)) tag ≡ Some r
    → IsPassed image (history_of (take i events)) (length events) depth now requests answers
    → IsPassed image (history_of (take (i + 1) events)) (length events) depth now requests (set answers r.number (Some (record { entry = i; outcome = outcome.Failed error lba; bytes = [] })))
fail_next {image} {events} {depth} {i} {event} {tag} {error} {lba} {r} {now} {requests} {answers} a e q p =
    let n = next_at image events depth i event a in
    let may = fail_taken image events depth i event tag error lba a e in
    let few : length (history_of (take i events)) ≤ length events = (let l = n.len in let b = a.low in omega arith) in
    subst (λ h. IsPassed image h (length events) depth now requests (set answers r.number (Some (record { entry = i; outcome = outcome.Failed error lba; bytes = [] }))))
    (more_as events i event (code.Fail tag error lba) _ e n.more)
    (subst (λ k. IsPassed image (Fail tag error lba ∷ history_of (take i events)) (length events) depth now requests
    (set answers r.number (Some (record { entry = k; outcome = outcome.Failed error lba; bytes = [] })))) n.len
    (passed_fail (length image / 512) depth image (history_of (take i events)) (length events) depth tag error lba r now requests answers few (n.before, may) q p))

quiet_entry : {A : _} (event : Event A) → ((x : ℕ) (op : Op A) → event ≡ code.Issue x op → ⊥) → (u : ℕ) (work : Work) → entry_of event ≢ Issue u work
quiet_entry event h u work e = not_issue event u work h e

not_complete : {A : _} (event : Event A) → ((x : ℕ) → event ≡ code.Complete x → ⊥) → (u : ℕ) → entry_of event ≢ Complete u
not_complete (code.Complete t) h u e = h t refl
not_complete _ h u e = cc

not_fail : {A : _} (event : Event A) → ((x y z : ℕ) → event ≡ code.Fail x y z → ⊥) → (u error lba : ℕ) → entry_of event ≢ Fail u error lba
not_fail (code.Fail t a b) h u error lba e = h t a b refl
not_fail _ h u error lba e = cc

not_zero : {A : _} (event : Event A) → ((x y : ℕ) → event ≡ code.Zero x y → ⊥) → (lba sectors : ℕ) → entry_of event ≢ Zero lba sectors
not_zero (code.Zero a b) h lba sectors e = h a b refl
not_zero _ h lba sectors e = cc

-- the sectors that become zeros are sectors of the image
pub zero_fits : {A : _} {image : List ℕ} {events : List (Event A)} {depth i : ℕ} {event : Event A} {lba sectors : ℕ} {now : List ℕ}
    {requests : List (Option ℕ)} {answers : List (Option Answer)} → IsAt image events depth i event → event ≡ code.Zero lba sectors
    → IsPassed image (history_of (take i events)) (length events) depth now requests answers → 512 * (lba + sectors) ≤ length now
zero_fits {image} {events} {depth} {i} {event} {lba} {sectors} {now} {requests} {answers} a e p =
    let n = next_at image events depth i event a in
    let may = allowed_as (length image / 512) depth (history_of (take i events)) event (code.Zero lba sectors) e n.allowed in
    let fits : lba + sectors ≤ length image / 512 = may.0.1 in
    let whole = a.whole in
    let size = p.size in omega arith

pub zero_next : {A : _} {image : List ℕ} {events : List (Event A)} {depth i : ℕ} {event : Event A} {lba sectors : ℕ} {now new : List ℕ}
    {requests : List (Option ℕ)} {answers : List (Option Answer)} → IsAt image events depth i event → event ≡ code.Zero lba sectors
    → length new ≡ length now → IsZeroedOver lba sectors now new
    → IsPassed image (history_of (take i events)) (length events) depth now requests answers → IsPassed image (history_of (take (i + 1) events)) (length events) depth new requests answers
zero_next {image} {events} {depth} {i} {event} {lba} {sectors} {now} {new} {requests} {answers} a e len zeros p =
    let n = next_at image events depth i event a in
    subst (λ h. IsPassed image h (length events) depth new requests answers) (more_as events i event (code.Zero lba sectors) _ e n.more)
    (passed_zero image (history_of (take i events)) (length events) depth lba sectors now new requests answers len zeros p)

pub quiet_next : {A : _} {image : List ℕ} {events : List (Event A)} {depth i : ℕ} {event : Event A} {now : List ℕ} {requests : List (Option ℕ)} {answers : List (Option Answer)}
    → IsAt image events depth i event
    → ((x : ℕ) (op : Op A) → event ≡ code.Issue x op → ⊥) → ((x : ℕ) → event ≡ code.Complete x → ⊥) → ((x y z : ℕ) → event ≡ code.Fail x y z → ⊥) → ((x y : ℕ) → event ≡ code.Zero x y → ⊥)
    → IsPassed image (history_of (take i events)) (length events) depth now requests answers → IsPassed image (history_of (take (i + 1) events)) (length events) depth now requests answers
quiet_next {image} {events} {depth} {i} {event} {now} {requests} {answers} a x y z w p =
    let n = next_at image events depth i event a in
    subst (λ h. IsPassed image h (length events) depth now requests answers) (sym n.more)
    (passed_quiet image (history_of (take i events)) (length events) depth (entry_of event) now requests answers (quiet_entry event x) (not_complete event y) (not_fail event z) (not_zero event w) p)
