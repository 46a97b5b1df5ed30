-- What requests can still need, entry by entry.
use Rattle.std.proofs.Common.{◌≡◌, ◌≢◌, ℕ, ◌+◌, ◌<◌, ◌≤◌, Bool, true, false, cond, ◌==◌, List, ◌∷◌, ap, sym, refl, ◌∙◌, Option, IsSomeAnd, arith, inl, inr}
use Rattle.std.specs.List.{sum_by}
use Rattle.std.proofs.lemmas.Bool.{eqb-true, eq-eqb, cond-true, cond-false, ne_eqb}
use Rattle.ncq_journal.specs.declared.phase.Phase.{Phase}
use Rattle.ncq_journal.specs.declared.phase.Phase.TheVariants.{Free, Issued, Accepted, Held, Done}
use Rattle.ncq_journal.specs.Entry.{Entry, Issue, Accept, Complete, Fail, Recover, Reissue, Collect, Unqueued, Zero}
use Rattle.ncq_journal.specs.Halted.{tags}
use Rattle.ncq_journal.specs.Lawful.{IsLawful, Fails}
use Rattle.ncq_journal.specs.Laws.{OwedIsFew, OwedMoves, owed_more, owed_less}
use Rattle.ncq_journal.specs.Owed.{owed, owed_in}
use Rattle.ncq_journal.specs.Phase.{phase, failed, recovered}
use Rattle.ncq_journal.specs.Request.{Request, request}
use Rattle.ncq_journal.proofs.PhaseLemmas.{free_past_depth, fails_not_free, of_failing}
use Rattle.ncq_journal.proofs.TagLemmas.{sum_one, sum_le, sum_add}
use Rattle.std.proofs.lemmas.Bool.{cases_lt}

few_in : (p : Phase) → owed_in p ≤ 4
few_in Free = omega arith
few_in _ = omega arith

pub owed_is_few : OwedIsFew
owed_is_few past = sum_le (λ tag. owed_in (phase past tag)) 4 (λ tag. few_in (phase past tag))

-- where an entry moves its own tag alone, from one phase to another
one_tag : (past : List Entry) (t : ℕ) (old new : ℕ → Phase) → t < 32 → ((u : ℕ) → new u ≡ cond (t == u) (new t) (old u))
    → sum_by (λ u. owed_in (new u)) tags + owed_in (old t) ≡ sum_by (λ u. owed_in (old u)) tags + owed_in (new t)
one_tag past t old new below moves =
    sum_one (λ u. owed_in (old u)) (λ u. owed_in (new u)) t below
    (λ u other. ap owed_in (moves u ∙ cond-false (t == u) (new t) (old u) (ne_eqb t u (λ e. other (sym e)))))

here : (t : ℕ) (p q : Phase) → cond (t == t) p q ≡ p
here t p q = cond-true (t == t) p q (eq-eqb t t refl)

-- a tag that isn't free is one of the 32
taken_below : (s d : ℕ) (past : List Entry) (t : ℕ) (p : Phase) → d ≤ 32 → IsLawful s d past → phase past t ≡ p → p ≢ Free → t < 32
taken_below s d past t p few h own taken =
    elim (cases_lt t 32) [
      | inl low ↦ low
      | inr high ↦ absurd (taken (sym own ∙ free_past_depth s d past t h (omega arith)))
    ]

failing : (s : ℕ) (o : Option Request) (p : Phase) (error lba : ℕ) → IsSomeAnd o (λ r. Fails s p r.work error lba) → owed_in (failed p) + owed_less p ≡ owed_in p
failing = of_failing (λ p. owed_in (failed p) + owed_less p ≡ owed_in p) refl refl

ending : (p : Phase) → owed_in (recovered p) ≡ owed_in p + owed_more p
ending Free = refl
ending _ = refl

-- the sum where the entry's own tag goes from one phase to another
step : (past : List Entry) (t : ℕ) (old : Phase) (new : ℕ → Phase) (q : Phase) → t < 32 → phase past t ≡ old
    → ((u : ℕ) → new u ≡ cond (t == u) q (phase past u)) → sum_by (λ u. owed_in (new u)) tags + owed_in old ≡ owed past + owed_in q
step past t old new q below own moves =
    let to : new t ≡ q = moves t ∙ here t q (phase past t) in
    let sums = one_tag past t (phase past) new below (λ u. moves u ∙ ap (λ x. cond (t == u) x (phase past u)) (sym to)) in
    ap (λ p. sum_by (λ u. owed_in (new u)) tags + owed_in p) (sym own) ∙ sums ∙ ap (λ p. owed past + owed_in p) to

own_fails : (past : List Entry) (t u : ℕ) → cond (t == u) (failed (phase past u)) (phase past u) ≡ cond (t == u) (failed (phase past t)) (phase past u)
own_fails past t u = by (t == u) refl
  where
    by : (b : Bool) → (t == u) ≡ b → cond b (failed (phase past u)) (phase past u) ≡ cond b (failed (phase past t)) (phase past u)
    by true e = ap (λ v. failed (phase past v)) (sym (eqb-true t u e))
    by false e = refl

pub owed_moves : OwedMoves
owed_moves s d past (Issue t work) few h =
    let below : t < d = h.1.0 in
    let e = step past t Free (phase (Issue t work ∷ past)) Issued (omega arith) h.1.1 (λ u. refl) in omega arith
owed_moves s d past (Accept t) few h =
    let e = step past t Issued (phase (Accept t ∷ past)) Accepted (taken_below s d past t Issued few h.0 h.1.0 (λ e. absurd (cc))) h.1.0 (λ u. refl) in omega arith
owed_moves s d past (Complete t) few h =
    let e = step past t Accepted (phase (Complete t ∷ past)) Done (taken_below s d past t Accepted few h.0 h.1.0 (λ e. absurd (cc))) h.1.0 (λ u. refl) in omega arith
owed_moves s d past (Fail t error lba) few h =
    let below = taken_below s d past t (phase past t) few h.0 refl (fails_not_free s (request past t) (phase past t) error lba h.1.1) in
    let e = step past t (phase past t) (phase (Fail t error lba ∷ past)) (failed (phase past t)) below refl (own_fails past t) in
    let less = failing s (request past t) (phase past t) error lba h.1.1 in
    omega arith
owed_moves s d past (Recover t) few h = sum_add (λ tag. owed_in (phase past tag)) (λ tag. owed_more (phase past tag)) (λ tag. owed_in (recovered (phase past tag))) (λ tag. ending (phase past tag))
owed_moves s d past (Reissue t) few h =
    let e = step past t Held (phase (Reissue t ∷ past)) Issued (taken_below s d past t Held few h.0 h.1.0 (λ e. absurd (cc))) h.1.0 (λ u. refl) in omega arith
owed_moves s d past (Collect t) few h =
    let e = step past t Done (phase (Collect t ∷ past)) Free (taken_below s d past t Done few h.0 h.1 (λ e. absurd (cc))) h.1 (λ u. refl) in omega arith
owed_moves s d past (Unqueued command) few h = refl
owed_moves s d past (Zero lba sectors) few h = refl
