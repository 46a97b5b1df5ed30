-- The entries of a journal by their numbers.
use Rattle.std.proofs.Common.{◌≡◌, ℕ, ◌-◌, ◌<◌, ◌≤◌, Bool, true, false, cond, ◌==◌, List, [], ◌∷◌, ◌++◌, length, drop, ap, sym, refl, subst, ◌∙◌, None, Some, arith, inl, inr, suc, zero, ◌⊎◌}
use mathlib.Core.List.{reverse}
use Rattle.std.specs.List.{slice_get}
use Rattle.std.proofs.lemmas.Bool.{cases_lt, eqb-true}
use Rattle.std.proofs.lemmas.List.{reverse-append, length-reverse}
use Rattle.std.proofs.lemmas.Option.{slice_get_within, same_Some, slice_get_past}
use Rattle.ncq_journal.specs.Entry.{Entry, Issue, Accept, Complete, Fail, Recover, Reissue, Collect, Unqueued, Zero}
use Rattle.ncq_journal.specs.History.{entry_at, first_of}
use Rattle.ncq_journal.specs.Lawful.{IsAllowed, IsLawful}
use Rattle.ncq_journal.specs.Laws.{LawfulAtEach, RequestIsItsIssue}
use Rattle.ncq_journal.specs.Request.{Request, request}
use Rattle.ncq_journal.specs.Work.{Work}

pub slice_get-front : {X : Type 0} (xs ys : List X) (k : ℕ) → k < length xs → slice_get (xs ++ ys) k ≡ slice_get xs k
slice_get-front [] ys k h = absurd (omega arith)
slice_get-front (x ∷ xs) ys zero h = refl
slice_get-front (x ∷ xs) ys (suc k) h = slice_get-front xs ys k (let b : suc k < suc (length xs) = h in omega arith)

slice_get-last : {X : Type 0} (xs : List X) (y : X) → slice_get (xs ++ y ∷ []) (length xs) ≡ Some y
slice_get-last [] y = refl
slice_get-last (x ∷ xs) y = slice_get-last xs y

-- an older entry keeps its number
pub entry_at-older : (past : List Entry) (entry : Entry) (k : ℕ) → k < length past → entry_at (entry ∷ past) k ≡ entry_at past k
entry_at-older past entry k h =
    ap (λ xs. slice_get xs k) (reverse-append (entry ∷ []) past) ∙ slice_get-front (reverse past) (entry ∷ []) k (let l : length (reverse past) ≡ length past = length-reverse past in omega arith)

-- the newest entry has the length before it as its number
pub entry_at-newest : (past : List Entry) (entry : Entry) → entry_at (entry ∷ past) (length past) ≡ Some entry
entry_at-newest past entry =
    ap (λ xs. slice_get xs (length past)) (reverse-append (entry ∷ []) past) ∙ ap (slice_get (reverse past ++ entry ∷ [])) (sym (length-reverse past)) ∙ slice_get-last (reverse past) entry

-- a number that an entry has is below the length
pub entry_at-within : (past : List Entry) (k : ℕ) (entry : Entry) → entry_at past k ≡ Some entry → k < length past
entry_at-within past k entry h =
    let within = slice_get_within (reverse past) k entry h in
    let l : length (reverse past) ≡ length past = length-reverse past in
    omega arith

-- there is no entry at or above the length
pub entry_at-past : (past : List Entry) (k : ℕ) → length past ≤ k → entry_at past k ≡ None
entry_at-past past k h = slice_get_past (reverse past) k (let l : length (reverse past) ≡ length past = length-reverse past in omega arith)

-- an entry of a journal is an older one or the newest
pub entry_at_cases : (past : List Entry) (newest entry : Entry) (k : ℕ) → entry_at (newest ∷ past) k ≡ Some entry
    → ((k < length past) × (entry_at past k ≡ Some entry)) ⊎ ((k ≡ length past) × (newest ≡ entry))
entry_at_cases past newest entry k h =
    elim (cases_lt k (length past)) [
      | inl older ↦ inl (older, sym (entry_at-older past newest k older) ∙ h)
      | inr high ↦
          let within = entry_at-within (newest ∷ past) k entry h in
          let same : k ≡ length past = (let w : k < suc (length past) = within in omega arith) in
          inr (same, same_Some newest entry (sym (entry_at-newest past newest) ∙ ap (entry_at (newest ∷ past)) (sym same) ∙ h))
    ]

-- the first entries, where one more entry came
pub first_of-older : (past : List Entry) (entry : Entry) (k : ℕ) → k ≤ length past → first_of (entry ∷ past) k ≡ first_of past k
first_of-older past entry k h = ap (λ n. drop n (entry ∷ past)) (let e : suc (length past) - k ≡ suc (length past - k) = omega arith in e)

-- all entries before the newest
pub first_of-newest : (past : List Entry) (entry : Entry) → first_of (entry ∷ past) (length past) ≡ past
first_of-newest past entry = first_of-older past entry (length past) (omega arith) ∙ ap (λ n. drop n past) (let e : length past - length past ≡ 0 = omega arith in e)

lawful_at : (s d : ℕ) (past : List Entry) → IsLawful s d past → (k : ℕ) (entry : Entry) → entry_at past k ≡ Some entry → IsAllowed s d (first_of past k) entry
lawful_at s d [] h k entry e = absurd (let w : k < 0 = entry_at-within [] k entry e in omega arith)
lawful_at s d (newest ∷ past) h k entry e =
    elim (entry_at_cases past newest entry k e) [
      | inl older ↦ subst (λ p. IsAllowed s d p entry) (sym (first_of-older past newest k (omega (arith, older.0)))) (lawful_at s d past h.0 k entry older.1)
      | inr here ↦
          let whole : first_of (newest ∷ past) k ≡ past = ap (first_of (newest ∷ past)) here.0 ∙ first_of-newest past newest in
          subst (λ p. IsAllowed s d p entry) (sym whole) (subst (IsAllowed s d past) here.1 h.1)
    ]

lawful_from : (s d : ℕ) (past : List Entry) → ((k : ℕ) (entry : Entry) → entry_at past k ≡ Some entry → IsAllowed s d (first_of past k) entry) → IsLawful s d past
lawful_from s d [] each = tt
lawful_from s d (newest ∷ past) each = (
  lawful_from s d past (λ k entry e.
      let within = entry_at-within past k entry e in
      subst (λ p. IsAllowed s d p entry) (first_of-older past newest k (omega (arith, within))) (each k entry (entry_at-older past newest k within ∙ e))),
  subst (λ p. IsAllowed s d p newest) (first_of-newest past newest) (each (length past) newest (entry_at-newest past newest)),
)

pub lawful_at_each : LawfulAtEach
lawful_at_each s d past = (lawful_at s d past, lawful_from s d past)

issue_is : (b : Bool) (t tag : ℕ) (past : List Entry) (work : Work) (r : Request) → (b ≡ true → t ≡ tag)
    → (b ≡ false → request past tag ≡ Some r → entry_at past r.number ≡ Some (Issue tag r.work)) → cond b (Some (record { number = length past; work = work })) (request past tag) ≡ Some r
    → entry_at (Issue t work ∷ past) r.number ≡ Some (Issue tag r.work)
issue_is true t tag past work r same older e =
    let number : length past ≡ r.number = ap (λ (q : Request). q.number) (same_Some _ r e) in
    let its : work ≡ r.work = ap (λ (q : Request). q.work) (same_Some _ r e) in
    ap (entry_at (Issue t work ∷ past)) (sym number) ∙ entry_at-newest past (Issue t work) ∙ ap (λ u. Some (Issue u work)) (same refl) ∙ ap (λ w. Some (Issue tag w)) its
issue_is false t tag past work r same older e =
    let found = older refl e in
    entry_at-older past (Issue t work) r.number (entry_at-within past r.number (Issue tag r.work) found) ∙ found

keeps : (past : List Entry) (newest : Entry) (n : ℕ) (entry : Entry) → entry_at past n ≡ Some entry → entry_at (newest ∷ past) n ≡ Some entry
keeps past newest n entry h = entry_at-older past newest n (entry_at-within past n entry h) ∙ h

pub request_is_its_issue : RequestIsItsIssue
request_is_its_issue [] tag r e = absurd (cc)
request_is_its_issue (Issue t work ∷ past) tag r e = issue_is (t == tag) t tag past work r (eqb-true t tag) (λ _. request_is_its_issue past tag r) e
request_is_its_issue (Accept t ∷ past) tag r e = keeps past (Accept t) r.number (Issue tag r.work) (request_is_its_issue past tag r e)
request_is_its_issue (Complete t ∷ past) tag r e = keeps past (Complete t) r.number (Issue tag r.work) (request_is_its_issue past tag r e)
request_is_its_issue (Fail t error lba ∷ past) tag r e = keeps past (Fail t error lba) r.number (Issue tag r.work) (request_is_its_issue past tag r e)
request_is_its_issue (Recover t ∷ past) tag r e = keeps past (Recover t) r.number (Issue tag r.work) (request_is_its_issue past tag r e)
request_is_its_issue (Reissue t ∷ past) tag r e = keeps past (Reissue t) r.number (Issue tag r.work) (request_is_its_issue past tag r e)
request_is_its_issue (Collect t ∷ past) tag r e = keeps past (Collect t) r.number (Issue tag r.work) (request_is_its_issue past tag r e)
request_is_its_issue (Unqueued command ∷ past) tag r e = keeps past (Unqueued command) r.number (Issue tag r.work) (request_is_its_issue past tag r e)
request_is_its_issue (Zero lba sectors ∷ past) tag r e = keeps past (Zero lba sectors) r.number (Issue tag r.work) (request_is_its_issue past tag r e)
