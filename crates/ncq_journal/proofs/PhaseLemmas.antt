-- Phases, requests and answers of lawful journals, by induction on the journal.
use Rattle.std.proofs.Common.{◌≡◌, ◌≢◌, true≢false, eq-eqb, ℕ, ◌<◌, ◌≤◌, Bool, true, false, cond, ◌==◌, List, [], ◌∷◌, ap, sym, refl, subst, ◌∙◌, Option, None, Some, IsSome, IsSomeAnd, arith, inl, inr}
use Rattle.std.proofs.lemmas.Bool.{cond_both, eqb-true, eqb-false, false≢true, cases_lt}
use Rattle.ncq_journal.specs.declared.phase.Phase.{Phase}
use Rattle.ncq_journal.specs.declared.phase.Phase.TheVariants.{Free, Issued, Accepted, Held, Done}
use Rattle.ncq_journal.specs.Entry.{Entry, Issue, Accept, Complete, Fail, Recover, Reissue, Collect, Unqueued, Zero}
use Rattle.ncq_journal.specs.Lawful.{IsLawful, Fails, Fits}
use Rattle.ncq_journal.specs.Laws.{OwnedHasRequest}
use Rattle.ncq_journal.specs.Phase.{phase, failed, recovered, is_failed}
use Rattle.ncq_journal.specs.Request.{Request, request}
use Rattle.ncq_journal.specs.Work.{Work}

-- a choice by two tags
pub cond_at : {X : Type 0} (t tag : ℕ) (x y : X) (P : X → Type 0) → (t ≡ tag → P x) → (t ≢ tag → P y) → P (cond (t == tag) x y)
cond_at t tag x y P same other = cond_both (t == tag) x y P (λ e. same (eqb-true t tag e)) (λ e. other (eqb-false t tag e))

-- what holds of the phase of one tag holds of the other's, where they are one tag
moved : (past : List Entry) (t tag : ℕ) (p : Phase) → t ≡ tag → phase past t ≡ p → phase past tag ≡ p
moved past t tag p same h = subst (λ u. phase past u ≡ p) same h

-- a step that leaves a free tag free, where the entry's own tag is not free
stays_free : (past : List Entry) (t tag : ℕ) (p q : Phase) → phase past tag ≡ Free → phase past t ≡ p → p ≢ Free → cond (t == tag) q (phase past tag) ≡ Free
stays_free past t tag p q free own taken =
    cond_at t tag q (phase past tag) (λ x. x ≡ Free) (λ same. absurd (taken (sym (moved past t tag p same own) ∙ free))) (λ _. free)

-- a command that fails had been issued
pub fails_not_free : (s : ℕ) (o : Option Request) (p : Phase) (error lba : ℕ) → IsSomeAnd o (λ r. Fails s p r.work error lba) → p ≢ Free
fails_not_free s None p error lba h = absurd h
fails_not_free s (Some r) p error lba h = λ free. subst (λ q. Fails s q r.work error lba) free h

-- what holds of a command that is issued, and of one that is accepted, holds of one that fails
pub of_failing : (P : Phase → Type 0) → P Issued → P Accepted → (s : ℕ) (o : Option Request) (p : Phase) (error lba : ℕ) → IsSomeAnd o (λ r. Fails s p r.work error lba) → P p
of_failing P issued accepted s None p error lba h = absurd h
of_failing P issued accepted s (Some r) Issued error lba h = issued
of_failing P issued accepted s (Some r) Accepted error lba h = accepted
of_failing P issued accepted s (Some r) Free error lba h = absurd h
of_failing P issued accepted s (Some r) _ error lba h = absurd h

pub recovered_not_free : (p : Phase) → is_failed p ≡ true → p ≢ Free
recovered_not_free p failed = λ free. false≢true (sym (ap is_failed free) ∙ failed)

-- a tag is free after a lawful journal of which something holds that held of it before each entry, and that no Issue of
-- the tag leaves
free_while : (s d tag : ℕ) (Q : List Entry → Type 0) → ((entry : Entry) (past : List Entry) → Q (entry ∷ past) → Q past)
    → ((t : ℕ) (work : Work) (past : List Entry) → IsLawful s d (Issue t work ∷ past) → Q (Issue t work ∷ past) → t ≢ tag)
    → (past : List Entry) → IsLawful s d past → Q past → phase past tag ≡ Free
free_while s d tag Q older other [] h q = refl
free_while s d tag Q older other (Issue t work ∷ past) h q =
    cond_at t tag Issued (phase past tag) (λ p. p ≡ Free) (λ same. absurd (other t work past h q same)) (λ _. free_while s d tag Q older other past h.0 (older _ past q))
free_while s d tag Q older other (Accept t ∷ past) h q =
    stays_free past t tag Issued Accepted (free_while s d tag Q older other past h.0 (older _ past q)) h.1.0 (λ e. absurd (cc))
free_while s d tag Q older other (Complete t ∷ past) h q =
    stays_free past t tag Accepted Done (free_while s d tag Q older other past h.0 (older _ past q)) h.1.0 (λ e. absurd (cc))
free_while s d tag Q older other (Fail t error lba ∷ past) h q =
    stays_free past t tag (phase past t) (failed (phase past tag)) (free_while s d tag Q older other past h.0 (older _ past q)) refl
    (fails_not_free s (request past t) (phase past t) error lba h.1.1)
free_while s d tag Q older other (Recover t ∷ past) h q = ap recovered (free_while s d tag Q older other past h.0 (older _ past q))
free_while s d tag Q older other (Reissue t ∷ past) h q =
    stays_free past t tag Held Issued (free_while s d tag Q older other past h.0 (older _ past q)) h.1.0 (λ e. absurd (cc))
free_while s d tag Q older other (Collect t ∷ past) h q =
    cond_at t tag Free (phase past tag) (λ p. p ≡ Free) (λ _. refl) (λ _. free_while s d tag Q older other past h.0 (older _ past q))
free_while s d tag Q older other (Unqueued command ∷ past) h q = free_while s d tag Q older other past h.0 (older _ past q)
free_while s d tag Q older other (Zero lba sectors ∷ past) h q = free_while s d tag Q older other past h.0 (older _ past q)

-- a tag at or above the depth is free
pub free_past_depth : (s d : ℕ) (past : List Entry) (tag : ℕ) → IsLawful s d past → d ≤ tag → phase past tag ≡ Free
free_past_depth s d past tag h l =
    free_while s d tag (λ _. d ≤ tag) (λ entry older q. q) (λ t work older own q same. let below : t < d = own.1.0 in omega arith) past h l

issue_none : (b : Bool) (r : Request) (o : Option Request) → cond b (Some r) o ≡ None → (b ≡ false) × (o ≡ None)
issue_none true r o none = absurd (cc)
issue_none false r o none = (refl, none)

older_none : (tag : ℕ) (entry : Entry) (past : List Entry) → request (entry ∷ past) tag ≡ None → request past tag ≡ None
older_none tag (Issue t work) past none = (issue_none (t == tag) _ (request past tag) none).1
older_none tag (Accept t) past none = none
older_none tag _ past none = none

-- a tag without a request is free
pub no_request : (s d : ℕ) (past : List Entry) (tag : ℕ) → IsLawful s d past → request past tag ≡ None → phase past tag ≡ Free
no_request s d past tag h none =
    free_while s d tag (λ p. request p tag ≡ None) (older_none tag)
    (λ t work older own q same. absurd (true≢false (sym (eq-eqb t tag same) ∙ (issue_none (t == tag) _ (request older tag) q).0))) past h none

some_unless_none : (o : Option Request) → (o ≡ None → ⊥) → IsSome o
some_unless_none None h = absurd (h refl)
some_unless_none (Some r) h = refl

pub owned_has_request : OwnedHasRequest
owned_has_request s d past tag h owned = some_unless_none (request past tag) (λ none. owned (no_request s d past tag h none))

not_accepted : (p : Phase) → recovered p ≢ Accepted
not_accepted Free e = absurd (cc)
not_accepted _ e = absurd (cc)

not_failed : (p : Phase) → failed p ≢ Accepted
not_failed Free e = absurd (cc)
not_failed _ e = absurd (cc)

-- a step after which an accepted tag was accepted before
was_accepted : (t tag : ℕ) (q p : Phase) → q ≢ Accepted → cond (t == tag) q p ≡ Accepted → p ≡ Accepted
was_accepted t tag q p other e = by (t == tag) e
  where
    by : (b : Bool) → cond b q p ≡ Accepted → p ≡ Accepted
    by true e = absurd (other e)
    by false e = e

issue_fits : (s : ℕ) (b : Bool) (r : Request) (o : Option Request) (p : Phase) → cond b Issued p ≡ Accepted
    → (p ≡ Accepted → IsSomeAnd o (λ q. Fits s q.work)) → IsSomeAnd (cond b (Some r) o) (λ q. Fits s q.work)
issue_fits s true r o p e older = absurd (let z : Issued ≡ Accepted = e in cc)
issue_fits s false r o p e older = older e

accept_fits : (s t tag : ℕ) (past : List Entry) → IsSomeAnd (request past t) (λ r. Fits s r.work) → (phase past tag ≡ Accepted → IsSomeAnd (request past tag) (λ r. Fits s r.work))
    → cond (t == tag) Accepted (phase past tag) ≡ Accepted → IsSomeAnd (request past tag) (λ r. Fits s r.work)
accept_fits s t tag past own older e = by (t == tag) refl e
  where
    by : (b : Bool) → (t == tag) ≡ b → cond b Accepted (phase past tag) ≡ Accepted → IsSomeAnd (request past tag) (λ r. Fits s r.work)
    by true same e = subst (λ u. IsSomeAnd (request past u) (λ r. Fits s r.work)) (eqb-true t tag same) own
    by false other e = older e

-- an accepted command ends at the disk's last sector or before it
pub accepted_fits : (s d : ℕ) (past : List Entry) (tag : ℕ) → IsLawful s d past → phase past tag ≡ Accepted → IsSomeAnd (request past tag) (λ r. Fits s r.work)
accepted_fits s d [] tag h e = absurd (let z : Free ≡ Accepted = e in cc)
accepted_fits s d (Issue t work ∷ past) tag h e = issue_fits s (t == tag) _ (request past tag) (phase past tag) e (accepted_fits s d past tag h.0)
accepted_fits s d (Accept t ∷ past) tag h e = accept_fits s t tag past h.1.2 (accepted_fits s d past tag h.0) e
accepted_fits s d (Complete t ∷ past) tag h e = accepted_fits s d past tag h.0 (was_accepted t tag Done (phase past tag) (λ z. absurd (cc)) e)
accepted_fits s d (Fail t error lba ∷ past) tag h e = accepted_fits s d past tag h.0 (was_accepted t tag (failed (phase past tag)) (phase past tag) (not_failed (phase past tag)) e)
accepted_fits s d (Recover t ∷ past) tag h e = absurd (not_accepted (phase past tag) e)
accepted_fits s d (Reissue t ∷ past) tag h e = accepted_fits s d past tag h.0 (was_accepted t tag Issued (phase past tag) (λ z. absurd (cc)) e)
accepted_fits s d (Collect t ∷ past) tag h e = accepted_fits s d past tag h.0 (was_accepted t tag Free (phase past tag) (λ z. absurd (cc)) e)
accepted_fits s d (Unqueued command ∷ past) tag h e = accepted_fits s d past tag h.0 e
accepted_fits s d (Zero lba sectors ∷ past) tag h e = accepted_fits s d past tag h.0 e

-- a tag that isn't free is below the depth
pub below_depth : (s d : ℕ) (past : List Entry) (tag : ℕ) (p : Phase) → IsLawful s d past → phase past tag ≡ p → p ≢ Free → tag < d
below_depth s d past tag p h own taken =
    elim (cases_lt tag d) [
      | inl low ↦ low
      | inr high ↦ absurd (taken (sym own ∙ free_past_depth s d past tag h high))
    ]
