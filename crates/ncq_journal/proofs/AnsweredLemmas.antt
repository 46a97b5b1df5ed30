-- When a request has its answer, and what a Complete answers.
use Rattle.std.proofs.Common.{◌≡◌, ◌≢◌, ℕ, ◌-◌, ◌<◌, ◌≤◌, Bool, true, false, cond, ◌==◌, List, [], ◌∷◌, length, length-drop, ap, sym, refl, subst, ◌∙◌, Option, None}
use Rattle.std.proofs.Common.{Some, is_some, IsSomeAnd, arith, inl, inr, suc}
use Rattle.std.specs.Option.{option_or}
use Rattle.std.proofs.lemmas.Bool.{both_ways, eqb-false, eq-eqb, cond-true}
use Rattle.std.proofs.lemmas.Option.{same_Some}
use Rattle.ncq_journal.specs.declared.outcome.Outcome.TheVariants as outcome
use Rattle.ncq_journal.specs.declared.phase.Phase.{Phase}
use Rattle.ncq_journal.specs.declared.phase.Phase.TheVariants.{Free, Issued, Accepted, Held, Done}
use Rattle.ncq_journal.specs.Answer.{Answer, answer, given, completes}
use Rattle.ncq_journal.specs.Entry.{Entry, Issue, Accept, Complete, Fail, Recover, Reissue, Collect, Unqueued, Zero}
use Rattle.ncq_journal.specs.History.{entry_at, first_of}
use Rattle.ncq_journal.specs.Lawful.{Fails, IsLawful}
use Rattle.ncq_journal.specs.Laws.{is_answered, answer_at, AnsweredByPhase, CompletedHasThisAnswer, CompletedIsAnswered, FailedHasThisAnswer, FailedIsNotCompleted, UnansweredIsLast, is_failure}
use Rattle.ncq_journal.specs.Phase.{phase, failed, recovered}
use Rattle.ncq_journal.specs.Request.{Request, request}
use Rattle.ncq_journal.specs.Work.{Work, Read, Write}
use Rattle.ncq_journal.proofs.EntryLemmas.{entry_at-past, entry_at-within, entry_at_cases, first_of-older, first_of-newest, request_is_its_issue}
use Rattle.ncq_journal.proofs.PhaseLemmas.{cond_at, of_failing}

or-none : (o : Option Answer) → option_or o None ≡ o
or-none None = refl
or-none (Some a) = refl

or-some : (o : Option Answer) (a : Answer) → is_some (option_or o (Some a)) ≡ true
or-some None a = refl
or-some (Some b) a = refl

pub given_none : (image : List ℕ) (past : List Entry) (newest : Entry) → given image past newest None ≡ None
given_none image past (Issue t work) = refl
given_none image past _ = refl

-- a request that is not yet issued has no answer
pub no_answer_yet : (image : List ℕ) (past : List Entry) (n : ℕ) → length past ≤ n → answer image past n ≡ None
no_answer_yet image [] n h = refl
no_answer_yet image (newest ∷ past) n h =
    let older = no_answer_yet image past n (let l : suc (length past) ≤ n = h in omega arith) in
    let absent = entry_at-past past n (let l : suc (length past) ≤ n = h in omega arith) in
    ap (λ o. option_or o (given image past newest (entry_at past n))) older ∙ ap (given image past newest) absent ∙ given_none image past newest

-- an entry that answers nobody
silent : (image : List ℕ) (past : List Entry) (n : ℕ) (newest : Entry) → given image past newest (entry_at past n) ≡ None → answer image (newest ∷ past) n ≡ answer image past n
silent image past n newest h = ap (option_or (answer image past n)) h ∙ or-none (answer image past n)

-- what an entry gives to a request whose tag it names, and to others
gives : (t tag : ℕ) (o : Option Answer) (a : Answer) (p q : Phase) → is_answered q ≡ true → (t ≢ tag → is_some o ≡ is_answered p)
    → is_some (option_or o (cond (t == tag) (Some a) None)) ≡ is_answered (cond (t == tag) q p)
gives t tag o a p q done older = by (t == tag) refl
  where
    by : (b : Bool) → (t == tag) ≡ b → is_some (option_or o (cond b (Some a) None)) ≡ is_answered (cond b q p)
    by true e = or-some o a ∙ sym done
    by false e = ap is_some (or-none o) ∙ older (eqb-false t tag e)

-- an entry that moves its own tag between two phases that are both answered, or both not
moves : (past : List Entry) (t tag : ℕ) (old new : Phase) → phase past t ≡ old → is_answered new ≡ is_answered old → is_answered (cond (t == tag) new (phase past tag)) ≡ is_answered (phase past tag)
moves past t tag old new own same =
    cond_at t tag new (phase past tag) (λ p. is_answered p ≡ is_answered (phase past tag)) (λ e. same ∙ ap is_answered (sym own ∙ ap (phase past) e)) (λ _. refl)

answered_failed : (p : Phase) → is_answered (failed p) ≡ true
answered_failed Free = refl
answered_failed _ = refl

answered_recovered : (p : Phase) → is_answered (recovered p) ≡ is_answered p
answered_recovered Free = refl
answered_recovered _ = refl

given_quiet : (image : List ℕ) (past : List Entry) (newest : Entry) (issue : Option Entry) → Type 0
given_quiet image past newest issue = given image past newest issue ≡ None

issue_answered : (b : Bool) (t tag : ℕ) (image : List ℕ) (past : List Entry) (work : Work) (r : Request)
    → (request past tag ≡ Some r → is_some (answer image past r.number) ≡ is_answered (phase past tag))
    → cond b (Some (record { number = length past; work = work })) (request past tag) ≡ Some r → is_some (answer image past r.number) ≡ is_answered (cond b Issued (phase past tag))
issue_answered true t tag image past work r older e =
    let number : length past ≡ r.number = ap (λ (q : Request). q.number) (same_Some _ r e) in
    ap is_some (no_answer_yet image past r.number (omega arith))
issue_answered false t tag image past work r older e = older e

pub answered_by_phase : AnsweredByPhase
answered_by_phase s d image [] tag r h e = absurd (cc)
answered_by_phase s d image (Issue t work ∷ past) tag r h e =
    ap is_some (silent image past r.number (Issue t work) refl)
    ∙ issue_answered (t == tag) t tag image past work r (answered_by_phase s d image past tag r h.0) e
answered_by_phase s d image (Accept t ∷ past) tag r h e =
    ap is_some (silent image past r.number (Accept t) refl) ∙ answered_by_phase s d image past tag r h.0 e ∙ sym (moves past t tag Issued Accepted h.1.0 refl)
answered_by_phase s d image (Complete t ∷ past) tag r h e =
    ap (λ i. is_some (option_or (answer image past r.number) (given image past (Complete t) i))) (request_is_its_issue past tag r e)
    ∙ gives t tag (answer image past r.number) (completes image past r.work) (phase past tag) Done refl (λ _. answered_by_phase s d image past tag r h.0 e)
answered_by_phase s d image (Fail t error lba ∷ past) tag r h e =
    ap (λ i. is_some (option_or (answer image past r.number) (given image past (Fail t error lba) i))) (request_is_its_issue past tag r e)
    ∙ gives t tag (answer image past r.number) (record { entry = length past; outcome = outcome.Failed error lba; bytes = [] }) (phase past tag)
    (failed (phase past tag)) (answered_failed (phase past tag)) (λ _. answered_by_phase s d image past tag r h.0 e)
answered_by_phase s d image (Recover t ∷ past) tag r h e =
    ap is_some (silent image past r.number (Recover t) refl) ∙ answered_by_phase s d image past tag r h.0 e ∙ sym (answered_recovered (phase past tag))
answered_by_phase s d image (Reissue t ∷ past) tag r h e =
    ap is_some (silent image past r.number (Reissue t) refl) ∙ answered_by_phase s d image past tag r h.0 e ∙ sym (moves past t tag Held Issued h.1.0 refl)
answered_by_phase s d image (Collect t ∷ past) tag r h e =
    ap is_some (silent image past r.number (Collect t) refl) ∙ answered_by_phase s d image past tag r h.0 e ∙ sym (moves past t tag Done Free h.1 refl)
answered_by_phase s d image (Unqueued command ∷ past) tag r h e =
    ap is_some (silent image past r.number (Unqueued command) refl) ∙ answered_by_phase s d image past tag r h.0 e
answered_by_phase s d image (Zero lba sectors ∷ past) tag r h e =
    ap is_some (silent image past r.number (Zero lba sectors) refl) ∙ answered_by_phase s d image past tag r h.0 e

none_yet : (o : Option Answer) → is_some o ≡ false → o ≡ None
none_yet None h = refl
none_yet (Some a) h = absurd (cc)

-- the answer that a Complete gives to its request
pub completed_now : (s d : ℕ) (image : List ℕ) (past : List Entry) (tag : ℕ) (r : Request) → IsLawful s d (Complete tag ∷ past)
    → request past tag ≡ Some r → answer image (Complete tag ∷ past) r.number ≡ Some (completes image past r.work)
completed_now s d image past tag r h e =
    let quiet = none_yet (answer image past r.number) (answered_by_phase s d image past tag r h.0 e ∙ ap is_answered h.1.0) in
    ap (λ o. option_or o (given image past (Complete tag) (entry_at past r.number))) quiet
    ∙ ap (given image past (Complete tag)) (request_is_its_issue past tag r e)
    ∙ cond-true (tag == tag) (Some (completes image past r.work)) None (eq-eqb tag tag refl)

-- a command that fails has no answer yet
fails_unanswered : (s : ℕ) (o : Option Request) (p : Phase) (error lba : ℕ) → IsSomeAnd o (λ r. Fails s p r.work error lba) → is_answered p ≡ false
fails_unanswered = of_failing (λ p. is_answered p ≡ false) refl refl

-- the answer that a Fail gives to its request
failed_now : (s d : ℕ) (image : List ℕ) (past : List Entry) (tag error lba : ℕ) (r : Request) → IsLawful s d (Fail tag error lba ∷ past) → request past tag ≡ Some r
    → answer image (Fail tag error lba ∷ past) r.number ≡ Some (record { entry = length past; outcome = outcome.Failed error lba; bytes = [] })
failed_now s d image past tag error lba r h e =
    let quiet = none_yet (answer image past r.number) (answered_by_phase s d image past tag r h.0 e ∙ fails_unanswered s (request past tag) (phase past tag) error lba h.1.1) in
    ap (λ o. option_or o (given image past (Fail tag error lba) (entry_at past r.number))) quiet
    ∙ ap (given image past (Fail tag error lba)) (request_is_its_issue past tag r e)
    ∙ cond-true (tag == tag) (Some (record { entry = length past; outcome = outcome.Failed error lba; bytes = [] })) None (eq-eqb tag tag refl)

-- the answer that entry k gives to the request of a tag stays
ended_at : (s d : ℕ) (image : List ℕ) (past : List Entry) (k tag n : ℕ) (entry : Entry) (o : Option Request) (a : List Entry → Answer)
    → ((before : List Entry) → IsLawful s d (entry ∷ before) → request before tag ≡ o → answer image (entry ∷ before) n ≡ Some (a before))
    → IsLawful s d past → entry_at past k ≡ Some entry → request (first_of past k) tag ≡ o → answer image past n ≡ Some (a (first_of past k))
ended_at s d image [] k tag n entry o a now h at e = absurd (let w : k < 0 = entry_at-within [] k entry at in omega arith)
ended_at s d image (newest ∷ past) k tag n entry o a now h at e =
    elim (entry_at_cases past newest entry k at) [
      | inl older ↦
          let same = first_of-older past newest k (omega (arith, older.0)) in
          ap (λ x. option_or x (given image past newest (entry_at past n))) (ended_at s d image past k tag n entry o a now h.0 older.1 (ap (λ p. request p tag) (sym same) ∙ e))
          ∙ ap (λ p. Some (a p)) (sym same)
      | inr here ↦
          let whole : first_of (newest ∷ past) k ≡ past = ap (first_of (newest ∷ past)) here.0 ∙ first_of-newest past newest in
          ap (λ x. answer image (x ∷ past) n) here.1 ∙ now past (subst (λ x. IsLawful s d (x ∷ past)) here.1 h) (ap (λ p. request p tag) (sym whole) ∙ e)
          ∙ ap (λ p. Some (a p)) (sym whole)
    ]

-- there are k entries before entry k
length-first_of : (past : List Entry) (k : ℕ) (entry : Entry) → entry_at past k ≡ Some entry → length (first_of past k) ≡ k
length-first_of past k entry at = let within = entry_at-within past k entry at in length-drop (length past - k) past ∙ (omega arith)

completes_at : (image : List ℕ) (before : List Entry) (k : ℕ) (work : Work) → length before ≡ k → completes image before work ≡ answer_at image before k work
completes_at image before k (Read lba sectors) e = ap (λ n. answer_at image before n (Read lba sectors)) e
completes_at image before k (Write lba bytes) e = ap (λ n. answer_at image before n (Write lba bytes)) e

pub completed_has_this_answer : CompletedHasThisAnswer
completed_has_this_answer s d image past k tag r h at e =
    ended_at s d image past k tag r.number (Complete tag) (Some r) (λ p. completes image p r.work) (λ p l q. completed_now s d image p tag r l q) h at e
    ∙ ap Some (completes_at image (first_of past k) k r.work (length-first_of past k (Complete tag) at))

pub failed_has_this_answer : FailedHasThisAnswer
failed_has_this_answer s d image past k tag error lba r h at e =
    ended_at s d image past k tag r.number (Fail tag error lba) (Some r)
    (λ p. record { entry = length p; outcome = outcome.Failed error lba; bytes = [] }) (λ p l q. failed_now s d image p tag error lba r l q) h at e
    ∙ ap (λ n. Some (record { entry = n; outcome = outcome.Failed error lba; bytes = [] })) (length-first_of past k (Fail tag error lba) at)

is_no_failure : (image : List ℕ) (before : List Entry) (k : ℕ) (work : Work) → ((answer_at image before k work).entry ≡ k) × (is_failure (answer_at image before k work).outcome ≡ false)
is_no_failure image before k (Read lba sectors) = (refl, refl)
is_no_failure image before k (Write lba bytes) = (refl, refl)

pub completed_is_answered : CompletedIsAnswered
completed_is_answered s d image past k tag r h at e =
    subst (λ o. IsSomeAnd o (λ a. (a.entry ≡ k) × (is_failure a.outcome ≡ false))) (sym (completed_has_this_answer s d image past k tag r h at e)) (is_no_failure image (first_of past k) k r.work)

apart : (o : Option Answer) → IsSomeAnd o (λ a. is_failure a.outcome ≡ true) → (k : ℕ) → IsSomeAnd o (λ a. (a.entry ≡ k) × (is_failure a.outcome ≡ false)) → ⊥
apart None h k g = h
apart (Some a) h k g = both_ways (is_failure a.outcome) g.1 h

pub failed_is_not_completed : FailedIsNotCompleted
failed_is_not_completed s d image past k tag r h ended e at = apart (answer image past r.number) ended k (completed_is_answered s d image past k tag r h at e)

none_before : (o later : Option Answer) → option_or o later ≡ None → o ≡ None
none_before None later e = refl
none_before (Some a) later e = absurd (cc)

-- a request without an answer stays its tag's last
last_stays : (s d : ℕ) (image : List ℕ) (past : List Entry) (newest : Entry) (tag : ℕ) (r : Request) → IsLawful s d (newest ∷ past) → answer image past r.number ≡ None → request past tag ≡ Some r
    → request (newest ∷ past) tag ≡ Some r
last_stays s d image past (Issue t work) tag r h none own =
    let waits : is_answered (phase past tag) ≡ false = sym (answered_by_phase s d image past tag r h.0 own) ∙ ap is_some none in
    cond_at t tag (Some (record { number = length past; work = work })) (request past tag) (λ o. o ≡ Some r)
    (λ same. absurd (both_ways (is_answered (phase past tag)) waits (ap (λ u. is_answered (phase past u)) (sym same) ∙ ap is_answered h.1.1))) (λ _. own)
last_stays s d image past (Accept t) tag r h none own = own
last_stays s d image past _ tag r h none own = own

pub unanswered_is_last : UnansweredIsLast
unanswered_is_last s d image [] n tag work h at none = absurd (let w : n < 0 = entry_at-within [] n (Issue tag work) at in omega arith)
unanswered_is_last s d image (newest ∷ past) n tag work h at none =
    elim (entry_at_cases past newest (Issue tag work) n at) [
      | inl older ↦
          let before = none_before (answer image past n) (given image past newest (entry_at past n)) none in
          last_stays s d image past newest tag (record { number = n; work = work }) h before (unanswered_is_last s d image past n tag work h.0 older.1 before)
      | inr here ↦
          ap (λ x. request (x ∷ past) tag) here.1 ∙ cond-true (tag == tag) (Some (record { number = length past; work = work })) (request past tag) (eq-eqb tag tag refl)
          ∙ ap (λ m. Some (record { number = m; work = work })) (sym here.0)
    ]
