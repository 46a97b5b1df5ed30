-- Which entries answer a tag's request.
use Rattle.std.proofs.Common.{◌≡◌, ◌≢◌, ℕ, ◌<◌, Bool, true, false, ◌==◌, cond, suc, List, [], ◌∷◌, length, ap, sym, refl, ◌∙◌, Option, None, Some, is_some, arith}
use Rattle.std.specs.Option.{option_or}
use Rattle.std.proofs.lemmas.Bool.{cond-true, cond-false, eq-eqb, ne_eqb, true≢false}
use Rattle.std.proofs.lemmas.Option.{same_Some}
use Rattle.ncq_journal.specs.declared.outcome.Outcome.TheVariants as outcome
use Rattle.ncq_journal.specs.Answer.{Answer, answer, completes, given}
use Rattle.ncq_journal.specs.Entry.{Entry, Issue, Complete, Fail}
use Rattle.ncq_journal.specs.History.{entry_at}
use Rattle.ncq_journal.specs.Lawful.{IsLawful}
use Rattle.ncq_journal.specs.Laws.{is_answered}
use Rattle.ncq_journal.specs.Phase.{phase}
use Rattle.ncq_journal.specs.Request.{Request, request}
use Rattle.ncq_journal.specs.Work.{Work, Read, Write}
use Rattle.ncq_journal.proofs.AnsweredLemmas.{answered_by_phase}
use Rattle.ncq_journal.proofs.EntryLemmas.{request_is_its_issue}

-- an entry that answers the request of a tag
abbrev pub answers : Entry → ℕ → Bool
answers (Complete t) u = t == u
answers (Fail t error lba) u = t == u
answers entry u = false

or-none : (o : Option Answer) → option_or o None ≡ o
or-none None = refl
or-none (Some a) = refl

quiet : (starting : List ℕ) (past : List Entry) (entry : Entry) (u : ℕ) (r : Request) → answers entry u ≡ false → given starting past entry (Some (Issue u r.work)) ≡ None
quiet starting past (Complete t) u r e = cond-false (t == u) _ None e
quiet starting past (Fail t error lba) u r e = cond-false (t == u) _ None e
quiet starting past _ u r e = refl

-- an entry that answers no request of the tag leaves its answer
pub answer_stays : (starting : List ℕ) (past : List Entry) (entry : Entry) (u : ℕ) (r : Request) → request past u ≡ Some r
    → answers entry u ≡ false → answer starting (entry ∷ past) r.number ≡ answer starting past r.number
answer_stays starting past entry u r asked e =
    ap (λ o. option_or (answer starting past r.number) o) (ap (given starting past entry) (request_is_its_issue past u r asked) ∙ quiet starting past entry u r e)
    ∙ or-none (answer starting past r.number)

none_yet : (o : Option Answer) → is_some o ≡ false → o ≡ None
none_yet None e = refl
none_yet (Some a) e = absurd (true≢false e)

-- a Fail answers its tag's request
pub failed_now : (s d : ℕ) (starting : List ℕ) (past : List Entry) (t error lba : ℕ) (r : Request) → IsLawful s d past → request past t ≡ Some r → is_answered (phase past t) ≡ false
    → answer starting (Fail t error lba ∷ past) r.number ≡ Some (record { entry = length past; outcome = outcome.Failed error lba; bytes = [] })
failed_now s d starting past t error lba r lawful asked waits =
    let none = none_yet (answer starting past r.number) (answered_by_phase s d starting past t r lawful asked ∙ waits) in
    ap (λ o. option_or o (given starting past (Fail t error lba) (entry_at past r.number))) none
    ∙ ap (given starting past (Fail t error lba)) (request_is_its_issue past t r asked)
    ∙ cond-true (t == t) (Some (record { entry = length past; outcome = outcome.Failed error lba; bytes = [] })) None (eq-eqb t t refl)

-- another tag's entry answers nobody of this one
pub apart_answers : (t u : ℕ) → u ≢ t → (t == u) ≡ false
apart_answers t u apart = ne_eqb t u (λ e. apart (sym e))

completed_at : (image : List ℕ) (past : List Entry) (work : Work) → (completes image past work).entry ≡ length past
completed_at image past (Read lba sectors) = refl
completed_at image past (Write lba bytes) = refl

chosen : (b : Bool) (x a : Answer) (n : ℕ) → x.entry ≡ n → cond b (Some x) None ≡ Some a → a.entry ≡ n
chosen true x a n is e = sym (ap (λ (y : Answer). y.entry) (same_Some x a e)) ∙ is
chosen false x a n is e = absurd (cc)

-- an entry gives its own place
given_at : (image : List ℕ) (past : List Entry) (entry : Entry) (issue : Option Entry) (a : Answer) → given image past entry issue ≡ Some a → a.entry ≡ length past
given_at image past (Complete t) (Some (Issue tag work)) a e = chosen (t == tag) _ a (length past) (completed_at image past work) e
given_at image past (Fail t error lba) (Some (Issue tag work)) a e = chosen (t == tag) _ a (length past) refl e
given_at image past entry issue a e = absurd (cc)

-- the entry of an answer is one of the journal's
pub answer_within : (image : List ℕ) (past : List Entry) (n : ℕ) (a : Answer) → answer image past n ≡ Some a → a.entry < length past
answer_within image [] n a e = absurd (cc)
answer_within image (entry ∷ past) n a e = by (answer image past n) refl e (λ q. answer_within image past n a q)
  where
    by : (o : Option Answer) → answer image past n ≡ o → option_or o (given image past entry (entry_at past n)) ≡ Some a
        → (answer image past n ≡ Some a → a.entry < length past) → a.entry < suc (length past)
    by (Some b) q h older = let old = older (q ∙ h) in omega arith
    by None q h older = let here = given_at image past entry (entry_at past n) a h in omega arith
