-- What one more entry does to the answers of other requests.
use Rattle.std.proofs.Common.{◌≡◌, ◌≢◌, ℕ, Bool, true, false, cond, ◌==◌, List, [], ◌∷◌, length, ap, sym, refl, subst, ◌∙◌, Option, None, Some, is_some, IsSome, IsSomeAnd, inl, inr}
use Rattle.std.specs.Option.{option_or}
use Rattle.std.proofs.lemmas.Bool.{cases_eq, eqb-true, eq-eqb, cond-true, cond-false, false≢true}
use Rattle.std.proofs.lemmas.Option.{same_Some}
use Rattle.ncq_journal.specs.declared.outcome.Outcome.TheVariants as outcome
use Rattle.ncq_journal.specs.declared.phase.Phase.{Phase}
use Rattle.ncq_journal.specs.declared.phase.Phase.TheVariants.{Free, Issued, Accepted}
use Rattle.ncq_journal.specs.Answer.{Answer, answer, given, completes}
use Rattle.ncq_journal.specs.Entry.{Entry, Issue, Accept, Complete, Fail, Recover, Reissue, Collect, Unqueued, Zero}
use Rattle.ncq_journal.specs.History.{entry_at}
use Rattle.ncq_journal.specs.Lawful.{IsLawful, Fails}
use Rattle.ncq_journal.specs.Laws.{is_answered}
use Rattle.ncq_journal.specs.Phase.{phase}
use Rattle.ncq_journal.specs.Request.{Request, request}
use Rattle.ncq_journal.specs.Work.{Work}
use Rattle.ncq_journal.proofs.AnsweredLemmas.{answered_by_phase}
use Rattle.ncq_journal.proofs.EntryLemmas.{entry_at_cases, request_is_its_issue}

-- a tag with an Issue has a request
issued_has : (past : List Entry) (n tag : ℕ) (work : Work) → entry_at past n ≡ Some (Issue tag work) → IsSome (request past tag)
issued_has [] n tag work e = absurd (cc)
issued_has (newest ∷ past) n tag work e =
    elim (entry_at_cases past newest (Issue tag work) n e) [
      | inl older ↦ later newest past tag (issued_has past n tag work older.1)
      | inr here ↦ subst (λ x. IsSome (request (x ∷ past) tag)) (sym here.1)
          (ap is_some (cond-true (tag == tag) (Some (record { number = length past; work = work })) (request past tag) (eq-eqb tag tag refl)))
    ]
  where
    chosen : (b : Bool) (x : Request) (o : Option Request) → IsSome o → IsSome (cond b (Some x) o)
    chosen true x o h = refl
    chosen false x o h = h

    later : (newest : Entry) (past : List Entry) (tag : ℕ) → IsSome (request past tag) → IsSome (request (newest ∷ past) tag)
    later (Issue t w) past tag h = chosen (t == tag) (record { number = length past; work = w }) (request past tag) h
    later _ past tag h = h

or_keeps : (o later : Option Answer) → is_some o ≡ true → is_some (option_or o later) ≡ true
or_keeps None later h = absurd (false≢true h)
or_keeps (Some a) later h = refl

or_stays : (o later : Option Answer) → is_some o ≡ true → option_or o later ≡ o
or_stays None later h = absurd (false≢true h)
or_stays (Some a) later h = refl

or_none : (o : Option Answer) → option_or o None ≡ o
or_none None = refl
or_none (Some a) = refl

-- the request before one that is issued now has its answer, and so have those before it
issued_again : (s d : ℕ) (image : List ℕ) (past : List Entry) (tag n : ℕ) (o : Option Request) → IsLawful s d past → phase past tag ≡ Free → request past tag ≡ o → IsSome o
    → ((r : Request) → request past tag ≡ Some r → n ≢ r.number → is_some (answer image past n) ≡ true) → is_some (answer image past n) ≡ true
issued_again s d image past tag n None h free q some ih = absurd (cc)
issued_again s d image past tag n (Some r) h free q some ih =
    elim (cases_eq n r.number) [
      | inl same ↦ ap (λ k. is_some (answer image past k)) same ∙ answered_by_phase s d image past tag r h q ∙ ap is_answered free
      | inr other ↦ ih r q other
    ]

before : (newest : Entry) (s d : ℕ) (image : List ℕ) (past : List Entry) (tag n : ℕ) (work : Work) (r : Request) → IsLawful s d (newest ∷ past)
    → request (newest ∷ past) tag ≡ Some r → entry_at past n ≡ Some (Issue tag work) → n ≢ r.number
    → ((q : Request) → request past tag ≡ Some q → n ≢ q.number → is_some (answer image past n) ≡ true) → is_some (answer image past n) ≡ true
before (Issue t w) s d image past tag n work r h q e other ih = by (t == tag) refl q
  where
    by : (b : Bool) → (t == tag) ≡ b → cond b (Some (record { number = length past; work = w })) (request past tag) ≡ Some r → is_some (answer image past n) ≡ true
    by true same x = issued_again s d image past tag n (request past tag) h.0 (ap (phase past) (sym (eqb-true t tag same)) ∙ h.1.1) refl (issued_has past n tag work e) ih
    by false apart x = ih r x other
before (Accept t) s d image past tag n work r h q e other ih = ih r q other
before _ s d image past tag n work r h q e other ih = ih r q other

number_now : (past : List Entry) (newest : Entry) (tag : ℕ) (work : Work) (r : Request) → newest ≡ Issue tag work → request (newest ∷ past) tag ≡ Some r → r.number ≡ length past
number_now past newest tag work r e q =
    ap (λ (x : Request). x.number) (same_Some r (record { number = length past; work = work })
    (sym q ∙ ap (λ x. request (x ∷ past) tag) e ∙ cond-true (tag == tag) (Some (record { number = length past; work = work })) (request past tag) (eq-eqb tag tag refl)))

-- every request of a tag but its last is answered
earlier_answered : (s d : ℕ) (image : List ℕ) (past : List Entry) (tag n : ℕ) (work : Work) (r : Request) → IsLawful s d past
    → request past tag ≡ Some r → entry_at past n ≡ Some (Issue tag work) → n ≢ r.number → is_some (answer image past n) ≡ true
earlier_answered s d image [] tag n work r h q e other = absurd (cc)
earlier_answered s d image (newest ∷ past) tag n work r h q e other =
    elim (entry_at_cases past newest (Issue tag work) n e) [
      | inl older ↦
          or_keeps (answer image past n) (given image past newest (entry_at past n))
          (before newest s d image past tag n work r h q older.1 other (λ p z ne. earlier_answered s d image past tag n work p h.0 z older.1 ne))
      | inr here ↦ absurd (other (here.0 ∙ sym (number_now past newest tag work r here.1 q)))
    ]

-- an entry that answers nobody
pub silent : (image : List ℕ) (past : List Entry) (n : ℕ) (newest : Entry) → given image past newest (entry_at past n) ≡ None → answer image (newest ∷ past) n ≡ answer image past n
silent image past n newest h = ap (option_or (answer image past n)) h ∙ or_none (answer image past n)

-- an entry of one tag answers no request but the tag's last
others : (s d : ℕ) (image : List ℕ) (past : List Entry) (t n : ℕ) (r : Request) (newest : Entry) → IsLawful s d past → request past t ≡ Some r → n ≢ r.number
    → ((u : ℕ) (work : Work) → (t == u) ≡ false → given image past newest (Some (Issue u work)) ≡ None)
    → ((o : Option Entry) → ((u : ℕ) (work : Work) → o ≢ Some (Issue u work)) → given image past newest o ≡ None)
    → (o : Option Entry) → entry_at past n ≡ o → answer image (newest ∷ past) n ≡ answer image past n
others s d image past t n r newest h q other apart quiet (Some (Issue u work)) e = by (t == u) refl
  where
    by : (b : Bool) → (t == u) ≡ b → answer image (newest ∷ past) n ≡ answer image past n
    by true same =
        or_stays (answer image past n) (given image past newest (entry_at past n))
        (earlier_answered s d image past t n work r h q (e ∙ ap (λ x. Some (Issue x work)) (sym (eqb-true t u same))) other)
    by false differ = silent image past n newest (ap (given image past newest) e ∙ apart u work differ)
others s d image past t n r newest h q other apart quiet None e = silent image past n newest (ap (given image past newest) e ∙ quiet None (λ u work z. cc))
others s d image past t n r newest h q other apart quiet (Some (Accept u)) e = silent image past n newest (ap (given image past newest) e ∙ quiet (Some (Accept u)) (λ x work z. cc))
others s d image past t n r newest h q other apart quiet (Some (Complete u)) e = silent image past n newest (ap (given image past newest) e ∙ quiet (Some (Complete u)) (λ x work z. cc))
others s d image past t n r newest h q other apart quiet (Some (Fail u a b)) e = silent image past n newest (ap (given image past newest) e ∙ quiet (Some (Fail u a b)) (λ x work z. cc))
others s d image past t n r newest h q other apart quiet (Some (Recover u)) e = silent image past n newest (ap (given image past newest) e ∙ quiet (Some (Recover u)) (λ x work z. cc))
others s d image past t n r newest h q other apart quiet (Some (Reissue u)) e = silent image past n newest (ap (given image past newest) e ∙ quiet (Some (Reissue u)) (λ x work z. cc))
others s d image past t n r newest h q other apart quiet (Some (Collect u)) e = silent image past n newest (ap (given image past newest) e ∙ quiet (Some (Collect u)) (λ x work z. cc))
others s d image past t n r newest h q other apart quiet (Some (Unqueued c)) e = silent image past n newest (ap (given image past newest) e ∙ quiet (Some (Unqueued c)) (λ x work z. cc))
others s d image past t n r newest h q other apart quiet (Some (Zero a b)) e = silent image past n newest (ap (given image past newest) e ∙ quiet (Some (Zero a b)) (λ x work z. cc))

quiet_complete : (image : List ℕ) (past : List Entry) (t : ℕ) (o : Option Entry) → ((u : ℕ) (work : Work) → o ≢ Some (Issue u work)) → given image past (Complete t) o ≡ None
quiet_complete image past t None h = refl
quiet_complete image past t (Some (Issue u work)) h = absurd (h u work refl)
quiet_complete image past t (Some (Accept u)) h = refl
quiet_complete image past t (Some (Complete u)) h = refl
quiet_complete image past t (Some (Fail u a b)) h = refl
quiet_complete image past t (Some (Recover u)) h = refl
quiet_complete image past t (Some (Reissue u)) h = refl
quiet_complete image past t (Some (Collect u)) h = refl
quiet_complete image past t (Some (Unqueued c)) h = refl
quiet_complete image past t (Some (Zero a b)) h = refl

quiet_fail : (image : List ℕ) (past : List Entry) (t error lba : ℕ) (o : Option Entry) → ((u : ℕ) (work : Work) → o ≢ Some (Issue u work)) → given image past (Fail t error lba) o ≡ None
quiet_fail image past t error lba None h = refl
quiet_fail image past t error lba (Some (Issue u work)) h = absurd (h u work refl)
quiet_fail image past t error lba (Some (Accept u)) h = refl
quiet_fail image past t error lba (Some (Complete u)) h = refl
quiet_fail image past t error lba (Some (Fail u a b)) h = refl
quiet_fail image past t error lba (Some (Recover u)) h = refl
quiet_fail image past t error lba (Some (Reissue u)) h = refl
quiet_fail image past t error lba (Some (Collect u)) h = refl
quiet_fail image past t error lba (Some (Unqueued c)) h = refl
quiet_fail image past t error lba (Some (Zero a b)) h = refl

pub complete_others : (s d : ℕ) (image : List ℕ) (past : List Entry) (t n : ℕ) (r : Request) → IsLawful s d past
    → request past t ≡ Some r → n ≢ r.number → answer image (Complete t ∷ past) n ≡ answer image past n
complete_others s d image past t n r h q other =
    others s d image past t n r (Complete t) h q other
    (λ u work differ. cond-false (t == u) (Some (completes image past work)) None differ)
    (quiet_complete image past t) (entry_at past n) refl

abbrev pub failure : List Entry → ℕ → ℕ → Answer
failure past error lba = record { entry = length past; outcome = outcome.Failed error lba; bytes = [] }

pub fail_others : (s d : ℕ) (image : List ℕ) (past : List Entry) (t n error lba : ℕ) (r : Request) → IsLawful s d past
    → request past t ≡ Some r → n ≢ r.number → answer image (Fail t error lba ∷ past) n ≡ answer image past n
fail_others s d image past t n error lba r h q other =
    others s d image past t n r (Fail t error lba) h q other
    (λ u work differ. cond-false (t == u) (Some (failure past error lba)) None differ)
    (quiet_fail image past t error lba) (entry_at past n) refl

fails_unanswered : (s : ℕ) (p : Phase) (work : Work) (error lba : ℕ) → Fails s p work error lba → is_answered p ≡ false
fails_unanswered s Accepted work error lba h = refl
fails_unanswered s Issued work error lba h = refl
fails_unanswered s _ work error lba h = absurd h

none_yet : (o : Option Answer) → is_some o ≡ false → o ≡ None
none_yet None h = refl
none_yet (Some a) h = absurd (cc)

-- the answer that a Fail gives to its request
pub failed_now : (s d : ℕ) (image : List ℕ) (past : List Entry) (t error lba : ℕ) (r : Request) → IsLawful s d (Fail t error lba ∷ past)
    → request past t ≡ Some r → answer image (Fail t error lba ∷ past) r.number ≡ Some (failure past error lba)
failed_now s d image past t error lba r h q =
    let fails : Fails s (phase past t) r.work error lba = subst (λ o. IsSomeAnd o (λ x. Fails s (phase past t) x.work error lba)) q h.1.1 in
    let calm = none_yet (answer image past r.number) (answered_by_phase s d image past t r h.0 q ∙ fails_unanswered s (phase past t) r.work error lba fails) in
    ap (λ o. option_or o (given image past (Fail t error lba) (entry_at past r.number))) calm
    ∙ ap (given image past (Fail t error lba)) (request_is_its_issue past t r q)
    ∙ cond-true (t == t) (Some (failure past error lba)) None (eq-eqb t t refl)
